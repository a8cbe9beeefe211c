use Rattle.std.proofs.Common.{sym, ◌∙◌, arith}
use Rattle.log_order.specs.InStream.{o2_in}
use Rattle.log_order.proofs.LoopSearch.{one_more}
use Rattle.log_order.proofs.Steps.{o2_by_steps}
use Rattle.log_order.proofs.streams.first_o2.Goals as goal

pub returns-then-steps_wrongly : goal.returns-then-steps_wrongly
returns-then-steps_wrongly c = (
  c.loop-i-test.true,
  o2_by_steps c.args.s.now c.requires c.loop-i.i c.loop-i-test.true c.loop-i.invariant ∙ sym c.steps_wrongly.ensures ∙ c.if-steps_wrongly.true,
  c.loop-i.invariant,
)

pub loop-i-preserved : goal.loop-i-preserved
loop-i-preserved c = one_more (o2_in c.args.s.now) c.loop-i.i c.loop-i.invariant
    (o2_by_steps c.args.s.now c.requires c.loop-i.i c.loop-i-test.true c.loop-i.invariant ∙ sym c.steps_wrongly.ensures ∙ c.if-steps_wrongly.false)

pub returns : goal.returns
returns c =
    let past = c.loop-i-test.false in
    λ j l. c.loop-i.invariant j (omega (arith, past, l))
