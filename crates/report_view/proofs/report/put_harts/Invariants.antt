use Rattle.std.proofs.Common.{◌≡◌, ◌++◌, ℕ, Bor, string_bytes}
use Rattle.std.specs.List.{flat_map}
use Rattle.rv_hart.specs.State.{Hart}
use Rattle.report_view.specs.Report.{hart_lines}
use Rattle.report_view.proofs.report.put_harts.Given as goal

abbrev pub invariant-loop-number : goal.invariant-loop-number
invariant-loop-number l =
    string_bytes l.out
    ≡ string_bytes l.initial.out ++ flat_map (λ (p : ℕ × (Bor Hart × Bor ℕ)). hart_lines p.0 p.1.1.now p.1.0.now) l.yielded
