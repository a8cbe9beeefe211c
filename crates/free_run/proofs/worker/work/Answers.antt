use Rattle.free_run.proofs.Working.{not_yet, worked_on}
use Rattle.free_run.proofs.worker.work.Goals as goal

pub loop-init : goal.loop-init
loop-init g c = (tt, tt, not_yet c.args.table.now c.args.pass.now c.args.job.now c.requires)

pub returns-in-Ends : goal.returns-in-Ends
returns-in-Ends g c =
    worked_on c.args.table.now c.args.pass.now c.loop.pass c.step.new.pass c.loop.job c.step.new.job c.loop.invariant.2 c.step.ensures

pub loop-preserved-in-Moves : goal.loop-preserved-in-Moves
loop-preserved-in-Moves g c = (
  tt,
  tt,
  worked_on c.args.table.now c.args.pass.now c.loop.pass c.step.new.pass c.loop.job c.step.new.job c.loop.invariant.2 c.step.ensures,
)

pub loop-preserved : goal.loop-preserved
loop-preserved g c = (
  tt,
  tt,
  worked_on c.args.table.now c.args.pass.now c.loop.pass c.step.new.pass c.loop.job c.step.new.job c.loop.invariant.2 c.step.ensures,
)
