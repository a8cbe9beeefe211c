use Rattle.round_run.proofs.Going.{CountsTo}
use Rattle.round_run.proofs.legs.counts_of.Given as goal

abbrev pub invariant-loop-place : goal.invariant-loop-place
invariant-loop-place l = CountsTo l.runs l.counts l.place
