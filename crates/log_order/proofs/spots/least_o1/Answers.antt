use Rattle.std.proofs.Common.{◌≡◌, length, Some, None, sym, ap, refl, arith}
use Rattle.order_rules.specs.Orderly.{o1}
use Rattle.log_order.specs.InStream.{o1_in}
use Rattle.log_order.proofs.Lift.{reading, in_row, found_row, none_row, none_left}
use Rattle.log_order.proofs.spots.least_o1.Goals as goal

pub returns-in-Some : goal.returns-in-Some
returns-in-Some c =
    let log = c.args.l.now in
    let t = c.items.result.now in
    let got = reading log.streams c.items-streams.result.now c.loop-h.h c.index-streams-h.result t c.items-streams.ensures c.loop-h-test.true
    c.index-streams-h.is c.items.ensures in
    sym (found_row log (o1 log) c.loop-h.h t c.in-Some.i got
    (in_row log (o1 log) (o1_in log.limit) (λ p. refl) c.loop-h.h t got (Some c.in-Some.i) c.in-Some.ensures) c.loop-h.invariant)

pub loop-h-preserved : goal.loop-h-preserved
loop-h-preserved c =
    let log = c.args.l.now in
    let t = c.items.result.now in
    let got = reading log.streams c.items-streams.result.now c.loop-h.h c.index-streams-h.result t c.items-streams.ensures c.loop-h-test.true
    c.index-streams-h.is c.items.ensures in
    none_row log (o1 log) c.loop-h.h t got
    (in_row log (o1 log) (o1_in log.limit) (λ p. refl) c.loop-h.h t got None c.in_default.ensures) c.loop-h.invariant

pub returns : goal.returns
returns c =
    let log = c.args.l.now in
    let past = c.loop-h-test.false in
    let size : length c.items-streams.result.now ≡ length log.streams = ap length c.items-streams.ensures in
    sym (none_left log (o1 log) (λ q spot lt. c.loop-h.invariant q spot (omega (arith, past, size, lt))))
