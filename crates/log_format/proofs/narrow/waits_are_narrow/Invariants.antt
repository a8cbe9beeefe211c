use Rattle.std.proofs.Common.{take}
use Rattle.std.specs.List.{All}
use Rattle.log_format.specs.Writing.{IsNarrowWait}
use Rattle.log_format.proofs.narrow.waits_are_narrow.Given as goal

abbrev pub invariant-loop-wait : goal.invariant-loop-wait
invariant-loop-wait l = All IsNarrowWait (take l.wait-index l.waits)
