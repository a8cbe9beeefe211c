use Rattle.free_run.specs.Workers.{HasWorked}
use Rattle.free_run.proofs.worker.work.Given as goal

abbrev pub invariant-loop : goal.invariant-loop
invariant-loop g l =
    (goal.iterator-loop g).can_next l.iterator' × (goal.iterator-loop g).is_finite l.iterator'
    × HasWorked l.table l.initial.pass l.pass l.job
