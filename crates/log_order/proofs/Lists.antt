-- Tests over lists, place by place.
use Rattle.std.proofs.Common.{◌≡◌, ℕ, zero, suc, ◌<◌, Bool, true, false, List, [], ◌∷◌, map, take, Some, refl, sym, ap, ◌∙◌, inl, inr, arith, eq-or-lt_of_le}
use Rattle.std.proofs.Common.{le_of_suc-le-suc}
use Rattle.std.specs.Prelude.{◌||◌, slice_get}
use Rattle.std.specs.List.{list_any, list_all}
use Rattle.std.proofs.lemmas.Bool.{or_from, or_left, or_right}
use Rattle.std.proofs.lemmas.List.Folds.{list_any-append}
use Rattle.std.proofs.lemmas.List.{map-append}
use Rattle.shared_types.proofs.Lists.{get_take, in_take, any_there, none_there, all_there}
use Rattle.orders_law.specs.Orders.{below}

module _ {X : Type 0} (f : X → Bool) where
  pub all_in_take : (xs : List X) (n : ℕ) → ((i : ℕ) (x : X) → i < n → slice_get xs i ≡ Some x → f x ≡ true) → list_all f (take n xs) ≡ true
  all_in_take xs n h = all_there f (take n xs) (λ i x at. let r = in_take xs n i x at in h i x r.0 r.1)

  pub none_in_take : (xs : List X) (n : ℕ) → ((i : ℕ) (x : X) → i < n → slice_get xs i ≡ Some x → f x ≡ false) → list_any f (take n xs) ≡ false
  none_in_take xs n h = none_there f (take n xs) (λ i x at. let r = in_take xs n i x at in h i x r.0 r.1)

  pub any_in_take : (xs : List X) (n i : ℕ) (x : X) → i < n → slice_get xs i ≡ Some x → f x ≡ true → list_any f (take n xs) ≡ true
  any_in_take xs n i x l at t = any_there f (take n xs) i x (get_take xs n i l ∙ at) t

-- over the numbers below one
module _ {X : Type 0} (g : ℕ → X) (f : X → Bool) where
  any-suc : (n : ℕ) → list_any f (map g (below (suc n))) ≡ (list_any f (map g (below n)) || (f (g n) || false))
  any-suc n = ap (list_any f) (map-append g (below n) (n ∷ [])) ∙ list_any-append f (map g (below n)) (g n ∷ [])

  pub any_below : (n i : ℕ) → i < n → f (g i) ≡ true → list_any f (map g (below n)) ≡ true
  any_below zero i l t = absurd (omega arith)
  any_below (suc n) i l t = any-suc n ∙ elim (eq-or-lt_of_le (le_of_suc-le-suc l)) [
    | inl same ↦ or_right (list_any f (map g (below n))) (f (g n) || false) (or_left (f (g n)) false (ap (λ k. f (g k)) (sym same) ∙ t))
    | inr less ↦ or_left (list_any f (map g (below n))) (f (g n) || false) (any_below n i less t)
  ]

  pub none_below : (n : ℕ) → ((i : ℕ) → i < n → f (g i) ≡ false) → list_any f (map g (below n)) ≡ false
  none_below zero h = refl
  none_below (suc n) h =
      any-suc n ∙ or_from (list_any f (map g (below n))) (f (g n) || false) (none_below n (λ i l. h i (omega (arith, l))))
      (or_from (f (g n)) false (h n (omega arith)) refl)

map-same : (xs : List ℕ) → map (λ (k : ℕ). k) xs ≡ xs
map-same [] = refl
map-same (x ∷ xs) = ap (λ zs. x ∷ zs) (map-same xs)

pub any_number : (f : ℕ → Bool) (n i : ℕ) → i < n → f i ≡ true → list_any f (below n) ≡ true
any_number f n i l t = ap (list_any f) (sym (map-same (below n))) ∙ any_below (λ (k : ℕ). k) f n i l t

pub no_number : (f : ℕ → Bool) (n : ℕ) → ((i : ℕ) → i < n → f i ≡ false) → list_any f (below n) ≡ false
no_number f n h = ap (list_any f) (sym (map-same (below n))) ∙ none_below (λ (k : ℕ). k) f n h
