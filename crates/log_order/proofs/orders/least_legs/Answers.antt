use Rattle.std.proofs.Common.{◌++◌, ◌∷◌, [], map, refl, ap, ◌∙◌}
use Rattle.log_entry.specs.Parts.{is_end, is_some_and}
use Rattle.order_rules.specs.Places.{entry_at}
use Rattle.log_order.specs.Rows.{spot_of}
use Rattle.log_order.proofs.OrderSoFar.{goes, over, legs_then}
use Rattle.log_order.proofs.orders.least_legs.Goals as goal

pub loop-leg-preserved : goal.loop-leg-preserved
loop-leg-preserved c =
    let log = c.args.l.now in
    let done = c.loop-leg.invariant.0 in
    let leg = c.in-Some.leg in (
      done ++ spot_of leg ∷ [],
      (
        goes log done c.loop-leg.cursor c.step.new.self leg c.loop-leg.invariant.1.0 c.in-Some.ensures.goes,
        ap (map spot_of) c.in_ok-add.ensures
            ∙ legs_then log c.loop-leg.legs.items done leg (is_some_and (entry_at log leg.hart leg.entry) is_end) refl c.loop-leg.invariant.1.1,
      ),
    )

pub returns : goal.returns
returns c =
    let log = c.args.l.now in
    let done = c.loop-leg.invariant.0 in
    let s = c.in_default.ensures.goes in
    (done, (c.loop-leg.cursor, over log done c.loop-leg.cursor c.loop-leg.invariant.1.0 s.0, c.loop-leg.invariant.1.1))
