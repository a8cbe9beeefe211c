-- The verdicts of harts that can't go, and the outcome that they tell.
use Rattle.std.proofs.Common.{◌≡◌, ◌≢◌, inl, inr, ℕ, zero, suc, ◌<◌, List, [], ◌∷◌, ◌++◌, Option, Some, None, refl, sym, ap, ap₂, ◌∙◌, arith}
use Rattle.std.specs.List.{filter_map, cons_option}
use Rattle.std.proofs.lemmas.List.Elements.{filter_map-append}
use Rattle.std.proofs.lemmas.Bool.{cases_eq}
use Rattle.orders_law.specs.Orders.{below}
use Rattle.replay_model.specs.Items.{Item, Verdict, HasEnded, Holds, CanGo, HasDiverged}
use Rattle.replay_model.specs.Outcome.{rule_of}
use Rattle.replay_core.specs.Items.{IsStill, rule_in, went_of}

-- nothing is made where a hart can't go
pub still : (item : Item) (v : Verdict) → v ≢ CanGo → IsStill (went_of item v)
still item HasEnded n = tt
still item Holds n = tt
still item CanGo n = absurd (n refl)
still item (HasDiverged rule) n = tt

pub rule_is : (item : Item) (v : Verdict) → v ≢ CanGo → rule_in (went_of item v) ≡ rule_of v
rule_is item HasEnded n = refl
rule_is item Holds n = refl
rule_is item CanGo n = absurd (n refl)
rule_is item (HasDiverged rule) n = refl

-- where the first of some numbers has an answer, the list of answers begins with it
module _ {X : Type 0} (f : ℕ → Option X) where
  pub none_found : (n : ℕ) → ((i : ℕ) → i < n → f i ≡ None) → filter_map f (below n) ≡ []
  none_found zero none = refl
  none_found (suc n) none =
      filter_map-append f (below n) (n ∷ [])
      ∙ ap₂ (λ (xs : List X) (o : Option X). xs ++ cons_option o []) (none_found n (λ i l. none i (omega (arith, l)))) (none n (omega arith))

  pub first_found : (n h : ℕ) (x : X) → h < n → f h ≡ Some x → ((i : ℕ) → i < h → f i ≡ None) → (others : List X) × (filter_map f (below n) ≡ x ∷ others)
  first_found zero h x l is none = absurd (omega (arith, l))
  first_found (suc n) h x l is none = elim (cases_eq h n) [
    | inl same ↦ (
      [],
      filter_map-append f (below n) (n ∷ [])
          ∙ ap₂ (λ (xs : List X) (o : Option X). xs ++ cons_option o []) (none_found n (λ i m. none i (omega (arith, m, same)))) (ap f (sym same) ∙ is),
    )
    | inr d ↦
        let rest = first_found n h x (omega (arith, l, d)) is none in
        (rest.0 ++ filter_map f (n ∷ []), filter_map-append f (below n) (n ∷ []) ∙ ap (λ (xs : List X). xs ++ filter_map f (n ∷ [])) rest.1)
  ]
