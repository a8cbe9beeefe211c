use Rattle.std.proofs.Common.{◌++◌, ◌∷◌, [], sym, ◌∙◌, subst}
use Rattle.log_order.specs.Rows.{spot_of}
use Rattle.log_order.proofs.OrderSoFar.{IsTaken, begins, goes, leaves, some_goes, none_goes}
use Rattle.log_order.proofs.orders.least_left.Goals as goal

pub loop-init : goal.loop-init
loop-init c = ([], subst (λ z. IsTaken c.args.l.now [] z) (sym c.in_ok-cursor.ensures) (begins c.args.l.now))

pub loop-preserved : goal.loop-preserved
loop-preserved c =
    let log = c.args.l.now in
    let s = some_goes log c.loop.cursor c.step.new.self c.step.result (sym c.is_some.ensures ∙ c.loop-test.true) c.step.ensures.goes in
    (c.loop.invariant.0 ++ spot_of s.0 ∷ [], goes log c.loop.invariant.0 c.loop.cursor c.step.new.self s.0 c.loop.invariant.1 s.1)

pub returns : goal.returns
returns c =
    let log = c.args.l.now in
    let s = none_goes log c.loop.cursor c.step.new.self c.step.result (sym c.is_some.ensures ∙ c.loop-test.false) c.step.ensures.goes in
    leaves log c.loop.invariant.0 c.loop.cursor c.step.new.self c.least_left.result c.loop.invariant.1 s c.least_left.ensures
