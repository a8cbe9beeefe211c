use Rattle.std.proofs.Common.{◌≡◌, ◌≢◌, ◌<◌, ◌≤◌, ◌∙◌, refl, sym, ap, subst, arith}
use Rattle.run_model.specs.Run.{Run, IsOneRun, ahead_of}
use Rattle.run_model.specs.Legs.{KeepsPages, HasLed}
use Rattle.run_model.specs.declared.asked.Ahead.TheVariants as ahead
use Rattle.run_model.specs.declared.asked.Pause.TheVariants as pause
use Rattle.run_model.proofs.Laws.{starts_leg, leads_on, ends_leg, keeps_on_move}
use Rattle.hart_run.proofs.Bursts.{led_gone, keeps_gone, count_gone}
use Rattle.hart_run.proofs.run.HartRun.advance.Goals as goal

pub loop-self-init : goal.loop-self-init
loop-self-init c = record {
  within = c.requires;
  kept = record { held = refl; unit_is = refl; number = refl; board = (refl, refl); frames = λ page n. refl };
  led = λ h s crew a. starts_leg c.args.self.now h s crew a;
}

pub loop-self-preserved : goal.loop-self-preserved
loop-self-preserved c =
    let free : ahead_of c.burst.new.self ≡ ahead.Free = sym c.in-Free.ensures.ahead in
    let one : IsOneRun c.loop-self.self = subst IsOneRun c.self.view_is c.self.invariant.one in
    let again : IsOneRun c.burst.new.self = subst IsOneRun c.self-in-loop-self.view_is c.self-in-loop-self.invariant.one in
    let count : c.self-in-loop-self.inside.count ≡ c.burst.new.self.count = ap (λ (z : Run). z.count) c.self-in-loop-self.view_is in
    let more = ap (λ (z : Run). z.count) c.in-Free.ensures.made in
    let most = c.burst.ensures.within in
    let apart : c.burst.new.self.count ≢ c.args.until = (λ e. c.if-self-until.false (count ∙ e)) in
    record {
      within = omega (arith, more, most, apart);
      kept = subst (KeepsPages c.args.self.now) (sym c.in-Free.ensures.made)
          (keeps_on_move c.args.self.now c.burst.new.self (keeps_gone c.args.self.now c.loop-self.self c.burst.new.self c.burst.ensures.gone
          c.loop-self.invariant.kept) free);
      led = λ h s crew a. subst (λ z. HasLed c.args.self.now.frames.unit z h s) (sym c.in-Free.ensures.made)
          (leads_on c.args.self.now.frames.unit c.burst.new.self h s
          (led_gone c.args.self.now.frames.unit c.loop-self.self c.burst.new.self h s one c.burst.ensures.gone (c.loop-self.invariant.led h s crew a))
          again free);
    }

pub loop-self-smaller : goal.loop-self-smaller
loop-self-smaller c =
    let count = ap (λ (z : Run). z.count) c.self.view_is in
    let more = ap (λ (z : Run). z.count) c.in-Free.ensures.made in
    let first = count_gone c.loop-self.self c.burst.new.self c.burst.ensures.gone in
    let test = c.loop-self-test.true in
    omega (arith, count, more, first, test)

pub returns-then-self-until-clause-kept : goal.returns-then-self-until-clause-kept
returns-then-self-until-clause-kept c = keeps_gone c.args.self.now c.loop-self.self c.burst.new.self c.burst.ensures.gone c.loop-self.invariant.kept

pub returns-then-self-until-clause-leg : goal.returns-then-self-until-clause-leg
returns-then-self-until-clause-leg c h s crew a =
    let one : IsOneRun c.loop-self.self = subst IsOneRun c.self.view_is c.self.invariant.one in
    let count : c.self-in-loop-self.inside.count ≡ c.burst.new.self.count = ap (λ (z : Run). z.count) c.self-in-loop-self.view_is in
    ends_leg c.args.self.now.frames.unit c.burst.new.self h c.args.until s pause.Due
    (led_gone c.args.self.now.frames.unit c.loop-self.self c.burst.new.self h s one c.burst.ensures.gone (c.loop-self.invariant.led h s crew a))
    c.burst.ensures.within (sym count ∙ c.if-self-until.true)

pub returns-in-Wants-clause-kept : goal.returns-in-Wants-clause-kept
returns-in-Wants-clause-kept c =
    subst (KeepsPages c.args.self.now) (sym c.in-Wants.ensures.made)
    (keeps_gone c.args.self.now c.loop-self.self c.burst.new.self c.burst.ensures.gone c.loop-self.invariant.kept)

pub returns-in-Wants-clause-leg : goal.returns-in-Wants-clause-leg
returns-in-Wants-clause-leg c h s crew a =
    let one : IsOneRun c.loop-self.self = subst IsOneRun c.self.view_is c.self.invariant.one in
    let count : c.self-in-loop-self.inside.count ≡ c.burst.new.self.count = ap (λ (z : Run). z.count) c.self-in-loop-self.view_is in
    let same : c.step.new.self.count ≡ c.burst.new.self.count = ap (λ (z : Run). z.count) c.in-Wants.ensures.made in
    let most = c.burst.ensures.within in
    let apart : c.burst.new.self.count ≢ c.args.until = (λ e. c.if-self-until.false (count ∙ e)) in
    let below : c.step.new.self.count < c.args.until = omega (arith, same, most, apart) in
    ends_leg c.args.self.now.frames.unit c.step.new.self h c.args.until s (pause.Wants c.in-Wants.page c.in-Wants.mode)
    (subst (λ z. HasLed c.args.self.now.frames.unit z h s) (sym c.in-Wants.ensures.made)
    (led_gone c.args.self.now.frames.unit c.loop-self.self c.burst.new.self h s one c.burst.ensures.gone (c.loop-self.invariant.led h s crew a)))
    (omega (arith, below))
    (below, ap ahead_of c.in-Wants.ensures.made ∙ sym c.in-Wants.ensures.ahead)

pub returns-in-AtDevice-clause-kept : goal.returns-in-AtDevice-clause-kept
returns-in-AtDevice-clause-kept c =
    subst (KeepsPages c.args.self.now) (sym c.in-AtDevice.ensures.made)
    (keeps_gone c.args.self.now c.loop-self.self c.burst.new.self c.burst.ensures.gone c.loop-self.invariant.kept)

pub returns-in-AtDevice-clause-leg : goal.returns-in-AtDevice-clause-leg
returns-in-AtDevice-clause-leg c h s crew a =
    let one : IsOneRun c.loop-self.self = subst IsOneRun c.self.view_is c.self.invariant.one in
    let count : c.self-in-loop-self.inside.count ≡ c.burst.new.self.count = ap (λ (z : Run). z.count) c.self-in-loop-self.view_is in
    let same : c.step.new.self.count ≡ c.burst.new.self.count = ap (λ (z : Run). z.count) c.in-AtDevice.ensures.made in
    let most = c.burst.ensures.within in
    let apart : c.burst.new.self.count ≢ c.args.until = (λ e. c.if-self-until.false (count ∙ e)) in
    let below : c.step.new.self.count < c.args.until = omega (arith, same, most, apart) in
    ends_leg c.args.self.now.frames.unit c.step.new.self h c.args.until s (pause.AtDevice c.in-AtDevice.access)
    (subst (λ z. HasLed c.args.self.now.frames.unit z h s) (sym c.in-AtDevice.ensures.made)
    (led_gone c.args.self.now.frames.unit c.loop-self.self c.burst.new.self h s one c.burst.ensures.gone (c.loop-self.invariant.led h s crew a)))
    (omega (arith, below))
    (below, ap ahead_of c.in-AtDevice.ensures.made ∙ sym c.in-AtDevice.ensures.ahead)

pub returns-clause-leg : goal.returns-clause-leg
returns-clause-leg c h s crew a =
    let count = ap (λ (z : Run). z.count) c.self.view_is in
    let test = c.loop-self-test.false in
    let most = c.loop-self.invariant.within in
    ends_leg c.args.self.now.frames.unit c.loop-self.self h c.args.until s pause.Due (c.loop-self.invariant.led h s crew a) c.loop-self.invariant.within
    (omega (arith, count, test, most))
