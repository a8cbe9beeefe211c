use Rattle.free_run.specs.Workers.{HaveWorked}
use Rattle.free_run.proofs.workers.step_each.Given as goal

abbrev pub invariant-loop-i : goal.invariant-loop-i
invariant-loop-i g l = HaveWorked l.table l.initial.mine l.mine
