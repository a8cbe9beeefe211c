use Rattle.std.proofs.Common.{inl, inr, arith}
use Rattle.order_rules.specs.Orderly.{o6, o7}
use Rattle.log_order.specs.declared.series.Series.TheVariants.{Pages}
use Rattle.log_order.specs.Least.{IsNumberedBelow}
use Rattle.log_order.proofs.Best.{nothing_seen, all_seen}
use Rattle.log_order.proofs.HoldsOfPage.{of_a_page}
use Rattle.log_order.proofs.RowWalk.{none_at_first, within_rows}
use Rattle.log_order.proofs.pages.judge_pages.Goals as goal

pub loop-page-init : goal.loop-page-init
loop-page-init c =
    let log = c.args.l.now in
    record {
      holds = nothing_seen log (o6 log) (IsNumberedBelow Pages log 0 0) (λ q s. none_at_first Pages log q s);
      waits = λ _. nothing_seen log (o7 log) (IsNumberedBelow Pages log 0 0) (λ q s. none_at_first Pages log q s);
    }

pub returns-clause-holds : goal.returns-clause-holds
returns-clause-holds c =
    let log = c.args.l.now in
    let past = c.loop-page-test.false in
    all_seen log (o6 log) (IsNumberedBelow Pages log c.loop-page.page 0) c.loop-page.least.holds c.loop-page.invariant.holds (λ q spot t.
    let e = of_a_page log q (inl t) in
    let l = within_rows Pages log c.args.rows.now c.requires.filled q e.0 e.1.0 e.1.1 e.1.2 in
    (e.0, (e.1.0, e.1.1, e.1.2, inl (omega (arith, l, past)))))

pub returns-clause-waits : goal.returns-clause-waits
returns-clause-waits c = λ none.
    let log = c.args.l.now in
    let past = c.loop-page-test.false in
    all_seen log (o7 log) (IsNumberedBelow Pages log c.loop-page.page 0) c.loop-page.least.waits (c.loop-page.invariant.waits none) (λ q spot t.
    let e = of_a_page log q (inr t) in
    let l = within_rows Pages log c.args.rows.now c.requires.filled q e.0 e.1.0 e.1.1 e.1.2 in
    (e.0, (e.1.0, e.1.1, e.1.2, inl (omega (arith, l, past)))))
