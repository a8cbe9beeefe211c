use Rattle.std.proofs.Common.{◌≡◌, ◌++◌, take, string_bytes}
use Rattle.report_view.specs.Report.{spaced_csrs}
use Rattle.report_view.proofs.report.put_spaced_csrs.Given as goal

abbrev pub invariant-loop-number : goal.invariant-loop-number
invariant-loop-number l = string_bytes l.out ≡ string_bytes l.initial.out ++ spaced_csrs l.hart (take l.number-index l.numbers)
