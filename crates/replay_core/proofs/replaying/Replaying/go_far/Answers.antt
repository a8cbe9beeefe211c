use Rattle.std.proofs.Common.{◌∙◌, false, refl, subst}
use Rattle.replay_core.specs.Standing.{HasGone}
use Rattle.replay_core.proofs.NotesKept.{aim_on, told_here, told_on, same_aim}
use Rattle.replay_core.proofs.StagesGoOn.{gone_less, gone_then, hart_on, on_then, somewhere_on}
use Rattle.replay_core.proofs.replaying.Replaying.go_far.Goals as goal

pub items-init : goal.items-init
items-init c = record {
  on = λ image s at. (s, at);
  log = refl;
  gone = (refl, (refl, refl));
  aim = same_aim c.args.notes.now;
  noted = told_here c.args.self.now c.args.notes.now;
}

pub go_leg-requires-clause-at : goal.go_leg-requires-clause-at
go_leg-requires-clause-at c = somewhere_on c.args.self.now c.items.self c.items.invariant.on c.requires.at

pub go_leg-requires-clause-hart : goal.go_leg-requires-clause-hart
go_leg-requires-clause-hart c =
    hart_on c.args.self.now c.items.self c.args.hart c.requires.at (somewhere_on c.args.self.now c.items.self c.items.invariant.on c.requires.at)
    c.items.invariant.log c.requires.hart

pub items-smaller : goal.items-smaller
items-smaller c = subst (λ went. HasGone went c.items.self c.go_leg.new.self) c.items-test.true c.go_leg.ensures.gone

pub items-preserved : goal.items-preserved
items-preserved c = record {
  on = on_then c.args.self.now c.items.self c.go_leg.new.self c.items.invariant.on c.go_leg.ensures.on;
  log = c.go_leg.ensures.log ∙ c.items.invariant.log;
  gone = gone_less c.items.went c.args.self.now c.items.self c.go_leg.new.self c.items.invariant.gone
      (subst (λ went. HasGone went c.items.self c.go_leg.new.self) c.items-test.true c.go_leg.ensures.gone);
  aim = aim_on c.args.notes.now c.items.notes c.go_leg.new.notes c.items.invariant.aim c.go_leg.ensures.aim;
  noted = told_on c.args.self.now c.items.self c.go_leg.new.self c.args.notes.now c.items.notes c.go_leg.new.notes c.items.invariant.noted
      c.go_leg.ensures.noted;
}

pub returns : goal.returns
returns c = record {
  on = on_then c.args.self.now c.items.self c.go_leg.new.self c.items.invariant.on c.go_leg.ensures.on;
  log = c.go_leg.ensures.log ∙ c.items.invariant.log;
  gone = gone_then c.items.went false c.args.self.now c.items.self c.go_leg.new.self c.items.invariant.gone
      (subst (λ went. HasGone went c.items.self c.go_leg.new.self) c.items-test.false c.go_leg.ensures.gone);
  stuck = c.go_leg.ensures.stuck c.items-test.false;
  aim = aim_on c.args.notes.now c.items.notes c.go_leg.new.notes c.items.invariant.aim c.go_leg.ensures.aim;
  noted = told_on c.args.self.now c.items.self c.go_leg.new.self c.args.notes.now c.items.notes c.go_leg.new.notes c.items.invariant.noted
      c.go_leg.ensures.noted;
}
