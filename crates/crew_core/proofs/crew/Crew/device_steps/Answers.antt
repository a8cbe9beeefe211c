use Rattle.std.proofs.Common.{refl}
use Rattle.turn_model.specs.Board.{Supply}
use Rattle.turn_laws.specs.Supplies.{followed_by}
use Rattle.crew_core.proofs.Stepping.{stands_outside}
use Rattle.crew_core.proofs.Dispatching.{nothing_given}
use Rattle.crew_core.proofs.StepOrder.{devices_end, devices_pass}
use Rattle.crew_core.proofs.crew.Crew.device_steps.Goals as goal

pub returns-in-Some-clause-does : goal.returns-in-Some-clause-does
returns-in-Some-clause-does g c =
    let d = c.in-Some.ensures.does in (
      d.0,
      d.1,
      d.2,
      d.3,
      λ b left st a no_more outside. devices_end c.args.hart c.args.self.now _ _ c.in-Some.order b left (d.4 b left st a no_more outside),
    )

pub closing_steps-requires-clause-tied : goal.closing_steps-requires-clause-tied
closing_steps-requires-clause-tied g c =
    let t = c.requires.tied in
    let d = c.in-None.ensures.does in
    let o : Supply = followed_by d.0 nothing_given in
    let touch = d.4 (record t.0 { supply = o }) nothing_given (stands_outside c.args.self.now t.0 o t.1) t.2 (λ e. (refl, refl)) refl in
    (touch.to, touch.stands, touch.agrees)

pub returns-in-None-clause-does : goal.returns-in-None-clause-does
returns-in-None-clause-does g c =
    let d = c.in-None.ensures.does in (
      d.0,
      d.1,
      d.2,
      d.3,
      λ b left st a no_more outside.
          let touch = d.4 b left st a no_more outside in
          devices_pass c.args.hart c.args.self.now _ _ _ _ _ b left touch (c.closing_steps.ensures touch.to touch.stands touch.agrees),
    )
