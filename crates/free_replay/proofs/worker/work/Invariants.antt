use Rattle.free_replay.specs.Workers.{HasWorked}
use Rattle.free_replay.proofs.worker.work.Given as goal

abbrev pub invariant-loop : goal.invariant-loop
invariant-loop g l =
    (goal.iterator-loop g).can_next l.iterator' × (goal.iterator-loop g).is_finite l.iterator'
    × HasWorked l.table l.initial.at_work l.at_work
