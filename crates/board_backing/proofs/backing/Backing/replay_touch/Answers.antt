use Rattle.std.proofs.Common.{◌∙◌, ap, refl, sym}
use Rattle.std.specs.Prelude.{is_some}
use Rattle.board_backing.proofs.Touches.{touch_leads, suits_is, answered, refused, unchanged}
use Rattle.board_backing.proofs.backing.Backing.replay_touch.Goals as goal

pub returns-in-Some-clause-leads : goal.returns-in-Some-clause-leads
returns-in-Some-clause-leads c = λ yes.
    touch_leads c.args.self.now _ c.args.run.now _ c.args.hart c.in-Some.loaded c.args.access c.args.input c.requires.running c.requires.ahead refl
    (answered _ _ _ _ c.in-Some.ensures.devices) c.take_answer.ensures.agrees

pub returns-in-Some-clause-exact : goal.returns-in-Some-clause-exact
returns-in-Some-clause-exact c = λ s backs a.
    sym (ap is_some (answered _ _ _ _ c.in-Some.ensures.devices))
    ∙ suits_is c.args.self.now c.args.run.now c.args.hart c.args.access c.args.input c.requires.ahead s backs a

pub returns-in-None-clause-exact : goal.returns-in-None-clause-exact
returns-in-None-clause-exact c = λ s backs a.
    sym (ap is_some (refused _ _ _ c.in-None.ensures.devices).0)
    ∙ suits_is c.args.self.now c.args.run.now c.args.hart c.args.access c.args.input c.requires.ahead s backs a

pub returns-in-None-clause-refused : goal.returns-in-None-clause-refused
returns-in-None-clause-refused c = λ no. (unchanged _ c.args.self.now _ c.in-None.ensures.devices c.in-None.ensures.room, refl)

pub returns-in-Some-clause-again : goal.returns-in-Some-clause-again
returns-in-Some-clause-again c = λ yes. (c.in-Some.loaded, answered _ _ _ _ c.in-Some.ensures.devices)
