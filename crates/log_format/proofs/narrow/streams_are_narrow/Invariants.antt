use Rattle.std.proofs.Common.{take}
use Rattle.std.specs.List.{All}
use Rattle.log_format.specs.Writing.{IsNarrow}
use Rattle.log_format.proofs.narrow.streams_are_narrow.Given as goal

abbrev pub invariant-loop-stream : goal.invariant-loop-stream
invariant-loop-stream l = All (All IsNarrow) (take l.stream-index l.streams)
