use Rattle.std.specs.List.{AllZip}
use Rattle.free_replay.specs.Workers.{HasWorked}
use Rattle.free_replay.proofs.workers.work_here.Given as goal

abbrev pub invariant-loop : goal.invariant-loop
invariant-loop g l =
    (goal.iterator-loop g).can_next l.iterator' × (goal.iterator-loop g).is_finite l.iterator'
    × AllZip (HasWorked l.table) l.initial.mine l.mine
