use Rattle.round_run.proofs.Going.{UntilsTo}
use Rattle.round_run.proofs.legs.untils_of.Given as goal

abbrev pub invariant-loop-place : goal.invariant-loop-place
invariant-loop-place l = UntilsTo l.orders l.untils l.place
