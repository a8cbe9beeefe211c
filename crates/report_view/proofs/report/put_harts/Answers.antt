use Rattle.std.proofs.Common.{◌++◌, ℕ, ap, sym, ◌∙◌, string_bytes}
use Rattle.std.specs.List.{flat_map}
use Rattle.std.proofs.lemmas.Iterator.{YieldsList-from_slice, YieldsList-from_zip}
use Rattle.std.proofs.lemmas.Iterator.Consumers.{YieldsList-from_enumerate, YieldsList-end}
use Rattle.std.proofs.lemmas.List.Folds.{flat_map-map}
use Rattle.rv_hart.specs.State.{Hart}
use Rattle.report_view.specs.Report.{hart_lines}
use Rattle.report_view.proofs.report.put_harts.Goals as goal

pub returns : goal.returns
returns c =
    let road = YieldsList-from_enumerate (YieldsList-from_zip (YieldsList-from_slice c.args.harts.now cc) (YieldsList-from_slice c.args.counts.now cc)) cc in
    let end = YieldsList-end road c.loop-number.yielded _ c.loop-number.yielded_by c.next.result c.next.new.self c.in-None.is c.next.ensures.steps in
    let text = λ (x : ℕ × (Hart × ℕ)). hart_lines x.0 x.1.1 x.1.0 in
    c.loop-number.invariant ∙ ap (λ bs. string_bytes c.args.out.now ++ bs) (sym (flat_map-map text _ c.loop-number.yielded) ∙ ap (flat_map text) end.0)
