use Rattle.std.proofs.Common.{◌≡◌, ◌++◌, take, string_bytes}
use Rattle.log_inspect.specs.Table.{yields_text}
use Rattle.log_inspect.proofs.table.put_yields.Given as goal

abbrev pub invariant-loop-i : goal.invariant-loop-i
invariant-loop-i l = string_bytes l.out ≡ string_bytes l.initial.out ++ yields_text (take l.i l.waits)
