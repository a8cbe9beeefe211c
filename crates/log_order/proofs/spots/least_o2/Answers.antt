use Rattle.std.proofs.Common.{◌≡◌, length, Some, None, sym, ap, refl, arith}
use Rattle.order_rules.specs.Orderly.{o2}
use Rattle.log_order.specs.InStream.{o2_in}
use Rattle.log_order.proofs.Lift.{reading, in_row, found_row, none_row, none_left}
use Rattle.log_order.proofs.StreamRules.{no_fall, widen, o2_past}
use Rattle.log_order.proofs.spots.least_o2.Goals as goal

pub returns-in-Some : goal.returns-in-Some
returns-in-Some c =
    let log = c.args.l.now in
    let t = c.items.result.now in
    let got = reading log.streams c.items-streams.result.now c.loop-h.h c.index-streams-h.result t c.items-streams.ensures c.loop-h-test.true
    c.index-streams-h.is c.items.ensures in
    sym (found_row log (o2 log) c.loop-h.h t c.in-Some.i got
    (in_row log (o2 log) (o2_in) (λ p. refl) c.loop-h.h t got (Some c.in-Some.i)
    (widen (o2_in t) (length t) (o2_past t) (Some c.in-Some.i) c.in-Some.ensures)) c.loop-h.invariant)

pub loop-h-preserved : goal.loop-h-preserved
loop-h-preserved c =
    let log = c.args.l.now in
    let t = c.items.result.now in
    let got = reading log.streams c.items-streams.result.now c.loop-h.h c.index-streams-h.result t c.items-streams.ensures c.loop-h-test.true
    c.index-streams-h.is c.items.ensures in
    none_row log (o2 log) c.loop-h.h t got
    (in_row log (o2 log) (o2_in) (λ p. refl) c.loop-h.h t got None (widen (o2_in t) (length t) (o2_past t) None c.in_default.ensures)) c.loop-h.invariant

pub returns : goal.returns
returns c =
    let log = c.args.l.now in
    let past = c.loop-h-test.false in
    let size : length c.items-streams.result.now ≡ length log.streams = ap length c.items-streams.ensures in
    sym (none_left log (o2 log) (λ q spot lt. c.loop-h.invariant q spot (omega (arith, past, size, lt))))

pub first_o2-requires : goal.first_o2-requires
first_o2-requires c =
    let log = c.args.l.now in
    no_fall log c.requires c.loop-h.h c.items.result.now
    (reading log.streams c.items-streams.result.now c.loop-h.h c.index-streams-h.result c.items.result.now c.items-streams.ensures c.loop-h-test.true
    c.index-streams-h.is c.items.ensures)
