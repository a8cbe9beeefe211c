use Rattle.free_run.proofs.Working.{all_not_yet, all_ready, all_worked_on}
use Rattle.free_run.proofs.workers.work_here.Goals as goal

pub loop-init : goal.loop-init
loop-init g c = (tt, tt, all_not_yet c.args.table.now c.args.mine.now c.requires)

pub step_each-requires-after_bounds : goal.step_each-requires-after_bounds
step_each-requires-after_bounds g c κs within = all_ready c.args.table.now c.args.mine.now c.loop.mine c.loop.invariant.2

pub returns-in-Ends : goal.returns-in-Ends
returns-in-Ends g c = all_worked_on c.args.table.now c.args.mine.now c.loop.mine c.step_each.new.mine c.loop.invariant.2 c.step_each.ensures

pub loop-preserved-in-Moves : goal.loop-preserved-in-Moves
loop-preserved-in-Moves g c = (
  tt,
  tt,
  all_worked_on c.args.table.now c.args.mine.now c.loop.mine c.step_each.new.mine c.loop.invariant.2 c.step_each.ensures,
)

pub loop-preserved : goal.loop-preserved
loop-preserved g c = (tt, tt, all_worked_on c.args.table.now c.args.mine.now c.loop.mine c.step_each.new.mine c.loop.invariant.2 c.step_each.ensures)
