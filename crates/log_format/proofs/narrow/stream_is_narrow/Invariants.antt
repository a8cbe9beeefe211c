use Rattle.std.proofs.Common.{take}
use Rattle.std.specs.List.{All}
use Rattle.log_format.specs.Writing.{IsNarrow}
use Rattle.log_format.proofs.narrow.stream_is_narrow.Given as goal

abbrev pub invariant-loop-entry : goal.invariant-loop-entry
invariant-loop-entry l = All IsNarrow (take l.entry-index l.entries)
