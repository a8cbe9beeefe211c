use Rattle.std.proofs.Common.{◌∙◌, refl}
use Rattle.replay_core.proofs.NotesKept.{aim_on, told_here, told_on, same_aim}
use Rattle.replay_core.proofs.StagesGoOn.{on_then, somewhere_on}
use Rattle.replay_core.proofs.replaying.Replaying.run_out.Goals as goal

pub sweeps-init : goal.sweeps-init
sweeps-init c = record {
  on = λ image s at. (s, at);
  log = refl;
  aim = same_aim c.args.notes.now;
  noted = told_here c.args.self.now c.args.notes.now;
}

pub sweep-requires : goal.sweep-requires
sweep-requires c = somewhere_on c.args.self.now c.sweeps.self c.sweeps.invariant.on c.requires

pub sweeps-smaller : goal.sweeps-smaller
sweeps-smaller c = c.sweep.ensures.less c.sweeps-test.true

pub sweeps-preserved : goal.sweeps-preserved
sweeps-preserved c = record {
  on = on_then c.args.self.now c.sweeps.self c.sweep.new.self c.sweeps.invariant.on c.sweep.ensures.on;
  log = c.sweep.ensures.log ∙ c.sweeps.invariant.log;
  aim = aim_on c.args.notes.now c.sweeps.notes c.sweep.new.notes c.sweeps.invariant.aim c.sweep.ensures.aim;
  noted = told_on c.args.self.now c.sweeps.self c.sweep.new.self c.args.notes.now c.sweeps.notes c.sweep.new.notes c.sweeps.invariant.noted
      c.sweep.ensures.noted;
}

pub returns : goal.returns
returns c = record {
  on = on_then c.args.self.now c.sweeps.self c.sweep.new.self c.sweeps.invariant.on c.sweep.ensures.on;
  log = c.sweep.ensures.log ∙ c.sweeps.invariant.log;
  stuck = c.sweep.ensures.stuck c.sweeps-test.false;
  aim = aim_on c.args.notes.now c.sweeps.notes c.sweep.new.notes c.sweeps.invariant.aim c.sweep.ensures.aim;
  noted = told_on c.args.self.now c.sweeps.self c.sweep.new.self c.args.notes.now c.sweeps.notes c.sweep.new.notes c.sweeps.invariant.noted
      c.sweep.ensures.noted;
}
