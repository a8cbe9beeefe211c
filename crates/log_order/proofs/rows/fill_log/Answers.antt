use Rattle.std.proofs.Common.{◌≡◌, ◌<◌, length, sym, ap, subst, arith}
use Rattle.order_rules.specs.Places.{stream}
use Rattle.log_order.specs.Rows.{misplaced}
use Rattle.order_rules.proofs.Numbers.{stream_there}
use Rattle.log_order.proofs.Lift.{found_row, none_left}
use Rattle.log_order.proofs.rows.fill_log.Goals as goal

pub returns-in-Some-clause-found : goal.returns-in-Some-clause-found
returns-in-Some-clause-found c =
    let log = c.args.l.now in
    let h = c.loop-h.h in
    let l : h < length log.streams = subst (λ xs. h < length xs) c.items-h-end.ensures c.loop-h-test.true in
    sym (found_row log (misplaced c.args.series log) h (stream log h) c.in-Some.i (stream_there log h l) c.in-Some.ensures.first c.loop-h.invariant.right)

pub returns-clause-found : goal.returns-clause-found
returns-clause-found c =
    let log = c.args.l.now in
    let past = c.loop-h-test.false in
    let size : length c.items-h-end.result.now ≡ length log.streams = ap length c.items-h-end.ensures in
    sym (none_left log (misplaced c.args.series log) (λ q spot lt. c.loop-h.invariant.right q spot (omega (arith, past, size, lt))))
