use Rattle.std.proofs.Common.{ℕ, ◌++◌, ◌∙◌, ap, string_bytes, arith}
use Rattle.rv_hart.specs.Effects.{reg}
use Rattle.report_view.specs.Report.{spaced, spaced_registers}
use Rattle.report_view.proofs.Ranges.{next_of_range}
use Rattle.report_view.proofs.report.put_spaced_registers.Goals as goal

pub loop-n-preserved : goal.loop-n-preserved
unfolding spaced_registers
loop-n-preserved c =
    let told = λ (n : ℕ). spaced (reg c.args.hart.now n) in
    c.in_ok-put_spaced.ensures
    ∙ ap (λ n. string_bytes c.loop-n.out ++ spaced n) c.reg.ensures
    ∙ ap (λ bs. bs ++ told c.loop-n.n) c.loop-n.invariant
    ∙ next_of_range told (string_bytes c.args.out.now) c.args.first c.loop-n.n (omega (arith, c.loop-n.auto.n))
