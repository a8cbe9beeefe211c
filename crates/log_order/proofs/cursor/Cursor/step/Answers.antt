use Rattle.std.proofs.Common.{◌≡◌, ℕ, ◌<◌, false, Some, length, sym, ap, ◌∙◌, subst, arith}
use Rattle.std.specs.Prelude.{is_some}
use Rattle.order_rules.specs.Cursor.{take_one}
use Rattle.log_order.proofs.OneStep.{none_below, first_below, fewer_left}
use Rattle.log_order.proofs.cursor.Cursor.step.Goals as goal

pub returns-in-Some-clause-goes : goal.returns-in-Some-clause-goes
returns-in-Some-clause-goes c =
    let log = c.args.l.now in
    let old = c.args.self.now in
    let h = c.loop-hart.hart in
    let l : h < length log.streams = subst (λ xs. h < length xs) c.items-hart-end.ensures c.loop-hart-test.true in
    let takes : take_one log h old ≡ Some (c.take.new.self, c.in-Some.place) = ap (take_one log h) (sym c.loop-hart.invariant.same) ∙ c.in-Some.ensures in
    let none : (j : ℕ) → j < h → is_some (take_one log j old) ≡ false =
    λ j m. ap (λ s. is_some (take_one log j s)) (sym c.loop-hart.invariant.same) ∙ c.loop-hart.invariant.none j m in
    (first_below (λ j. is_some (take_one log j old)) (length log.streams) h l (ap is_some takes) none, takes)

pub returns-in-Some-clause-fewer : goal.returns-in-Some-clause-fewer
returns-in-Some-clause-fewer c =
    let log = c.args.l.now in
    let old = c.args.self.now in
    let h = c.loop-hart.hart in
    let l : h < length log.streams = subst (λ xs. h < length xs) c.items-hart-end.ensures c.loop-hart-test.true in
    let takes : take_one log h old ≡ Some (c.take.new.self, c.in-Some.place) = ap (take_one log h) (sym c.loop-hart.invariant.same) ∙ c.in-Some.ensures in
    let size = c.requires.places in
    fewer_left log h old c.take.new.self c.in-Some.place (omega (arith, l, size)) takes

pub returns-clause-goes : goal.returns-clause-goes
returns-clause-goes c =
    let log = c.args.l.now in
    let old = c.args.self.now in
    let past = c.loop-hart-test.false in
    let size : length c.items-hart-end.result.now ≡ length log.streams = ap length c.items-hart-end.ensures in (
      none_below (λ j. is_some (take_one log j old)) (length log.streams)
          (λ j m. ap (λ s. is_some (take_one log j s)) (sym c.loop-hart.invariant.same) ∙ c.loop-hart.invariant.none j (omega (arith, past, size, m))),
      c.loop-hart.invariant.same,
    )
