use Rattle.std.proofs.Common.{sym, ap, ◌∙◌, find}
use Rattle.std.specs.Prelude.{option_map}
use Rattle.shared_types.proofs.Lists.{nothing_mapped}
use Rattle.order_rules.specs.Orderly.{spots}
use Rattle.log_order.specs.declared.series.Series.TheVariants.{Pages}
use Rattle.log_order.specs.Rows.{misplaced, spot_of}
use Rattle.log_order.specs.Refusal.{KeepsPages}
use Rattle.log_order.proofs.Misplacement.{o5_misplaces}
use Rattle.log_order.proofs.Refusals.{spot_fits, when_kept, refused, refused_with, carried, broken_o5, broken_o6, broken_o7}
use Rattle.log_order.proofs.judging.judge_rows.Goals as goal

pub tell-requires : goal.tell-requires
tell-requires c = λ p is. spot_fits c.args.l.now c.requires.small (misplaced Pages c.args.l.now) p (sym c.in_ok-rows.ensures.found ∙ is)

pub returns-in_err-tell-clause-refused : goal.returns-in_err-tell-clause-refused
returns-in_err-tell-clause-refused c =
    let log = c.args.l.now in
    carried log c.from_residual-in_err-tell.result c.in_err-tell.field-0.0 c.from_residual-in_err-tell.ensures.1
    (refused_with log 5 c.in_ok-rows.misplaced c.in_err-tell.field-0.0 c.in_err-tell.ensures
    (λ p is. broken_o5 log c.requires.streams p (ap (λ test. find test (spots log)) (o5_misplaces log) ∙ sym c.in_ok-rows.ensures.found ∙ is)))

pub judge_pages-requires-clause-numbered : goal.judge_pages-requires-clause-numbered
judge_pages-requires-clause-numbered c =
    ap (λ test. find test (spots c.args.l.now)) (o5_misplaces c.args.l.now) ∙ sym c.in_ok-rows.ensures.found ∙ c.in_ok-tell.ensures

pub returns-in_err-tell_leg-clause-refused : goal.returns-in_err-tell_leg-clause-refused
returns-in_err-tell_leg-clause-refused c =
    let log = c.args.l.now in
    let five = ap (λ test. find test (spots log)) (o5_misplaces log) ∙ sym c.in_ok-rows.ensures.found ∙ c.in_ok-tell.ensures in
    carried log c.from_residual-in_err-tell_leg.result c.in_err-tell_leg.field-0.0 c.from_residual-in_err-tell_leg.ensures.1
    (refused_with log 6 (option_map spot_of c.in_ok-least.least.holds) c.in_err-tell_leg.field-0.0 c.in_err-tell_leg.ensures
    (λ p is. broken_o6 log c.requires.streams five p (c.in_ok-least.ensures.holds ∙ is)))

pub returns-clause-kept : goal.returns-clause-kept
returns-clause-kept c =
    let log = c.args.l.now in
    let none = nothing_mapped spot_of c.in_ok-least.least.holds c.in_ok-tell_leg.ensures in
    let five = ap (λ test. find test (spots log)) (o5_misplaces log) ∙ sym c.in_ok-rows.ensures.found ∙ c.in_ok-tell.ensures in
    when_kept 7 (option_map spot_of c.in_ok-least.least.waits) c.tell_leg-2.result (KeepsPages log) c.tell_leg-2.ensures
    (λ right. record { o5 = five; o6 = c.in_ok-least.ensures.holds ∙ c.in_ok-tell_leg.ensures; o7 = c.in_ok-least.ensures.waits none ∙ right })

pub returns-clause-refused : goal.returns-clause-refused
returns-clause-refused c =
    let log = c.args.l.now in
    let none = nothing_mapped spot_of c.in_ok-least.least.holds c.in_ok-tell_leg.ensures in
    let five = ap (λ test. find test (spots log)) (o5_misplaces log) ∙ sym c.in_ok-rows.ensures.found ∙ c.in_ok-tell.ensures in
    refused log 7 (option_map spot_of c.in_ok-least.least.waits) c.tell_leg-2.result c.tell_leg-2.ensures
    (λ p is. broken_o7 log c.requires.streams five (c.in_ok-least.ensures.holds ∙ c.in_ok-tell_leg.ensures) p (c.in_ok-least.ensures.waits none ∙ is))
