-- The two passes of a new table.
use Rattle.std.specs.Prelude.{slice_get, All}
use Rattle.std.proofs.Common.{◌≡◌, ℕ, List, [], ◌∷◌, ◌++◌, length, Option, Some, None, refl, ap, ◌∙◌, arith}
use Rattle.turn_table.specs.declared.table.Pass.{Pass}
use Rattle.turn_table.specs.declared.table.TurnTable.{TurnTable}
use Rattle.turn_table.specs.Passes.{HoldsBoard, IsIdle, IsPassOf, IsSame, hart_of}
use Rattle.side_work.specs.Places.{IsHeld, IsServed}

-- what was taken off twice
pub two_of : {X : Type 0} → (xs ys zs : List X) (a b : X) → xs ≡ ys ++ b ∷ [] → ys ≡ zs ++ a ∷ [] → length zs ≡ 0 → xs ≡ a ∷ b ∷ []
two_of xs ys [] a b is was none = is ∙ ap (λ l. l ++ b ∷ []) was
two_of xs ys (z ∷ zs) a b is was none = absurd (omega (arith, none))

module _ {B W : Type 0} (t : TurnTable B (Option W)) (a b : Pass B (Option W)) where
  pub second_serves : All (λ p. IsPassOf t p × IsIdle p) (a ∷ b ∷ [])
      → ((h : ℕ) (p : Pass B (Option W)) → slice_get (a ∷ b ∷ []) h ≡ Some p → hart_of p ≡ h) → IsServed t b
  second_serves each harts =
      let here = each 1 a (omega arith) in
      record { table = here.0; idle = here.1; second = harts 1 b refl }

  pub first_holds : (parts : B → List (Option W)) (board : B) (asked : Option W) (p : Pass B (Option W))
      → ((h : ℕ) (q : Pass B (Option W)) → slice_get (a ∷ b ∷ []) h ≡ Some q → hart_of q ≡ h) → IsPassOf t p → IsSame a p
      → HoldsBoard parts board p → parts board ≡ asked ∷ None ∷ [] → IsHeld t p
  first_holds parts board asked p harts of same holds are =
      record { table = of; holds = holds.holding; first = same.hart ∙ harts 0 a refl; asked = asked; noted = holds.noted ∙ are }
