use Rattle.crew_parts.specs.Parts.{AreParts}
use Rattle.crew_parts.specs.Turns.{SameTerms}
use Rattle.free_run.proofs.rest.turn_until_over.Given as goal

abbrev pub invariant-loop : goal.invariant-loop
invariant-loop g l =
    (goal.iterator-loop g).can_next l.iterator' × (goal.iterator-loop g).is_finite l.iterator'
    × SameTerms l.initial.board l.board × AreParts l.board l.runs
