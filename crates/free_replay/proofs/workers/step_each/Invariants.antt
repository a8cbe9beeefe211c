use Rattle.std.specs.List.{AllZip}
use Rattle.free_replay.specs.Workers.{HasWorked}
use Rattle.free_replay.proofs.workers.step_each.Given as goal

abbrev pub invariant-loop-i : goal.invariant-loop-i
invariant-loop-i g l = AllZip (HasWorked l.table) l.initial.mine l.mine
