use Rattle.free_run.specs.Workers.{HaveWorked}
use Rattle.free_run.proofs.workers.work_here.Given as goal

abbrev pub invariant-loop : goal.invariant-loop
invariant-loop g l =
    (goal.iterator-loop g).can_next l.iterator' × (goal.iterator-loop g).is_finite l.iterator'
    × HaveWorked l.table l.initial.mine l.mine
