use Rattle.std.proofs.Common.{arith}
use Rattle.free_replay.proofs.Working.{all_not_yet, all_ready, one_worked_on}
use Rattle.free_replay.proofs.workers.step_each.Goals as goal

pub loop-i-init : goal.loop-i-init
loop-i-init g c = all_not_yet c.args.table.now c.args.mine.now c.requires

pub step-requires-after_bounds : goal.step-requires-after_bounds
step-requires-after_bounds g c κs within =
    all_ready c.args.table.now c.args.mine.now c.loop-i.mine c.loop-i.invariant c.loop-i.i c.index-mine-i.result
    (omega (arith, c.loop-i-test.true, c.loop-i.auto.mine))

pub loop-i-preserved : goal.loop-i-preserved
loop-i-preserved g c = one_worked_on c.args.table.now c.args.mine.now c.loop-i.mine c.loop-i.i c.index-mine-i.result c.step.new.worker c.loop-i.invariant
    c.step.ensures
