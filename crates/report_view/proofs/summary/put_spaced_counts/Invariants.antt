use Rattle.std.proofs.Common.{◌≡◌, ◌++◌, take, string_bytes}
use Rattle.report_view.specs.Summary.{spaced_counts}
use Rattle.report_view.proofs.summary.put_spaced_counts.Given as goal

abbrev pub invariant-loop-count : goal.invariant-loop-count
invariant-loop-count l = string_bytes l.out ≡ string_bytes l.initial.out ++ spaced_counts (take l.count-index l.counts)
