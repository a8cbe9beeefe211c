use Rattle.std.proofs.Common.{sym, ◌∙◌, arith}
use Rattle.log_order.specs.InStream.{o1_in}
use Rattle.log_order.proofs.LoopSearch.{one_more}
use Rattle.log_order.proofs.streams.first_o1.Goals as goal

pub returns-then-breaks_o1 : goal.returns-then-breaks_o1
returns-then-breaks_o1 c = (c.loop-i-test.true, sym c.breaks_o1.ensures ∙ c.if-breaks_o1.true, c.loop-i.invariant)

pub loop-i-preserved : goal.loop-i-preserved
loop-i-preserved c = one_more (o1_in c.args.limit c.args.s.now) c.loop-i.i c.loop-i.invariant (sym c.breaks_o1.ensures ∙ c.if-breaks_o1.false)

pub returns : goal.returns
returns c =
    let past = c.loop-i-test.false in
    λ j l. c.loop-i.invariant j (omega (arith, past, l))
