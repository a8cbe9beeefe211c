use Rattle.std.proofs.Common.{arith, refl}
use Rattle.round_run.proofs.Going.{no_untils, untils_more}
use Rattle.round_run.proofs.legs.untils_of.Goals as goal

pub loop-place-init : goal.loop-place-init
loop-place-init c = no_untils c.args.orders.now _ refl

pub loop-place-preserved : goal.loop-place-preserved
loop-place-preserved c =
    untils_more c.args.orders.now c.loop-place.untils c.loop-place.place _ c.until_of.result c.loop-place-test.true refl c.until_of.ensures
    c.loop-place.invariant

pub returns : goal.returns
returns c = λ h less.
    c.loop-place.invariant.so h
    (let e = c.loop-place-test.false in let k = c.loop-place.auto.place-end in let l = c.told-orders in omega (arith, less, e, k, l))
