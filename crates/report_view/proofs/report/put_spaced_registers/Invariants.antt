use Rattle.std.proofs.Common.{◌≡◌, ◌++◌, ◌-◌, string_bytes}
use Rattle.std.specs.List.{range_with_len}
use Rattle.report_view.specs.Report.{spaced_registers}
use Rattle.report_view.proofs.report.put_spaced_registers.Given as goal

abbrev pub invariant-loop-n : goal.invariant-loop-n
invariant-loop-n l = string_bytes l.out ≡ string_bytes l.initial.out ++ spaced_registers l.hart (range_with_len l.fn.first (l.n - l.fn.first))
