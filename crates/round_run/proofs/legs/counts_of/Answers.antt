use Rattle.std.proofs.Common.{arith, refl}
use Rattle.std.proofs.lemmas.Option.{slice_get_within}
use Rattle.round_run.proofs.Going.{counts_more, no_counts}
use Rattle.round_run.proofs.legs.counts_of.Goals as goal

pub loop-place-init : goal.loop-place-init
loop-place-init c = no_counts c.args.runs.now _ refl

pub loop-place-preserved : goal.loop-place-preserved
loop-place-preserved c =
    counts_more c.args.runs.now c.loop-place.counts c.loop-place.place c.count.result c.index-runs-place.result c.requires c.loop-place-test.true
    c.index-runs-place.is c.count.ensures c.loop-place.invariant

pub returns : goal.returns
returns c = λ h r at.
    c.loop-place.invariant.so h r
    (let l = slice_get_within c.args.runs.now h r at in let e = c.loop-place-test.false in let k = c.loop-place.auto.place-end in omega (arith, l, e, k)) at
