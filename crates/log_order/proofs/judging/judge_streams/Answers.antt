use Rattle.std.proofs.Common.{sym, ◌∙◌}
use Rattle.order_rules.specs.Orderly.{o1, o2, o3}
use Rattle.log_order.proofs.Refusals.{spot_fits, when_kept, o4_kept}
use Rattle.log_order.specs.Refusal.{KeepsStreams}
use Rattle.log_order.proofs.judging.judge_streams.Goals as goal

pub tell-requires : goal.tell-requires
tell-requires c = λ p is. spot_fits c.args.l.now c.requires (o1 c.args.l.now) p (sym c.least_o1.ensures ∙ is)

pub tell-requires-2 : goal.tell-requires-2
tell-requires-2 c = λ p is. spot_fits c.args.l.now c.requires (o2 c.args.l.now) p (sym c.least_o2.ensures ∙ is)

pub tell-requires-3 : goal.tell-requires-3
tell-requires-3 c = λ p is. spot_fits c.args.l.now c.requires (o3 c.args.l.now) p (sym c.least_o3.ensures ∙ is)

pub returns-clause-kept : goal.returns-clause-kept
returns-clause-kept c =
    let log = c.args.l.now in
    let one = sym c.least_o1.ensures ∙ c.in_ok-tell.ensures in
    let two = sym c.least_o2.ensures ∙ c.in_ok-tell-2.ensures in
    when_kept 3 c.least_o3.result c.tell-3.result (KeepsStreams log) c.tell-3.ensures
    (λ none. record { o1 = one; o2 = two; o3 = sym c.least_o3.ensures ∙ none; o4 = o4_kept log one two })
