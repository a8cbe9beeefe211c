use Rattle.crew_parts.specs.Parts.{AreParts}
use Rattle.crew_parts.specs.Turns.{SameTerms}
use Rattle.free_run.proofs.rest.turns_of_all.Given as goal

abbrev pub invariant-loop-i : goal.invariant-loop-i
invariant-loop-i g l = SameTerms l.initial.board l.board × AreParts l.board l.runs
