use Rattle.std.proofs.Common.{◌≡◌, ℕ, subst, sym, Some, refl, ap, ◌∙◌, arith}
use Rattle.std.specs.Arc.{arc_value}
use Rattle.std.specs.Prelude.{All, slice_get}
use Rattle.turn_table.specs.Passes.{IsIdle, IsPassOf, hart_of}
use Rattle.side_work.specs.declared.desk.Place.{Place}
use Rattle.side_work.specs.Places.{IsHeld, IsServed}
use Rattle.side_work.proofs.Opening.{first_holds, second_serves, two_of}
use Rattle.side_work.proofs.hand.open.Goals as goal

pub at-requires-after_bounds : goal.at-requires-after_bounds
at-requires-after_bounds g c κs within =
    let a = c.in_ok-first.first in
    let b = c.in_ok-second.second in
    let are =
    two_of c.in-Ok.passes.items c.pop.new.self.items c.pop-2.new.self.items a b c.in_ok-second.ensures.items c.in_ok-first.ensures.items
    (omega (arith, c.in_ok-second.ensures.len, c.in_ok-first.ensures.len, c.in-Ok.ensures.count, c.pop-2.new.self.ok.0))
    in
    let same : (arc_value c.in-Ok-try_clone.other).table ≡ c.in-Ok.table =
    ap (λ (p : Place g.row.W.Denot). p.table) (c.in-Ok-try_clone.ensures ∙ c.in-Ok-new.ensures.ok)
    in
    subst (λ t. IsServed t b) (sym same)
    (second_serves c.in-Ok.table a b (subst (All (λ p. IsPassOf c.in-Ok.table p × IsIdle p)) are c.in-Ok.ensures.table)
    (subst (λ ps. (h : ℕ) (p : _) → slice_get ps h ≡ Some p → hart_of p ≡ h) are (λ h p at. (c.in-Ok.ensures.each h p at).0)))

pub invariant_of-result : goal.invariant_of-result
invariant_of-result g c =
    let a = c.in_ok-first.first in
    let b = c.in_ok-second.second in
    let are =
    two_of c.in-Ok.passes.items c.pop.new.self.items c.pop-2.new.self.items a b c.in_ok-second.ensures.items c.in_ok-first.ensures.items
    (omega (arith, c.in_ok-second.ensures.len, c.in_ok-first.ensures.len, c.in-Ok.ensures.count, c.pop-2.new.self.ok.0))
    in
    let same : (arc_value c.in-Ok-new.place).table ≡ c.in-Ok.table = ap (λ (p : Place g.row.W.Denot). p.table) c.in-Ok-new.ensures.ok in
    subst (λ t. IsHeld t c.try_take.new.pass) (sym same)
    (first_holds c.in-Ok.table a b _ c.in_ok-try_take.field-0 _ c.try_take.new.pass
    (subst (λ ps. (h : ℕ) (p : _) → slice_get ps h ≡ Some p → hart_of p ≡ h) are (λ h p at. (c.in-Ok.ensures.each h p at).0))
    c.in_ok-try_take.ensures.table c.in_ok-try_take.ensures.same c.in_ok-try_take.ensures.holds refl)
