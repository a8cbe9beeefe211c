-- The numbers below one: how many they are, what is among them, and tests that all or none of them pass.
use Rattle.std.proofs.Common.{◌≡◌, ◌⊎◌, ℕ, zero, suc, ◌+◌, ◌<◌, ◌&&◌, Bool, true, false, cond, find, List, [], ◌∷◌, ◌++◌, slice_get, Option, Some, None}
use Rattle.std.proofs.Common.{length, refl, sym, ap, ap₂, ◌∙◌, subst, inl, inr, arith, eq-or-lt_of_le, le_of_suc-le-suc}
use Rattle.std.specs.Option.{option_or}
use Rattle.std.specs.List.{list_all, range_with_len}
use Rattle.std.proofs.lemmas.List.{length_push}
use Rattle.std.proofs.lemmas.Option.{none-some, same_Some}
use Rattle.std.proofs.lemmas.List.Folds.{find-append, list_all-append}
use Rattle.shared_types.proofs.Ranges.{range_more}
use Rattle.orders_law.specs.Orders.{below}

pub length_below : (n : ℕ) → length (below n) ≡ n
length_below zero = refl
length_below (suc n) = let e = length_push (below n) n in let l = length_below n in omega (arith, e, l)

pub below_range : (n : ℕ) → below n ≡ range_with_len 0 n
below_range zero = refl
below_range (suc n) = ap (λ ks. ks ++ n ∷ []) (below_range n) ∙ ap (λ k. range_with_len 0 n ++ k ∷ []) (from_zero n) ∙ sym (range_more 0 n) where
  from_zero : (n : ℕ) → n ≡ 0 + n
  from_zero n = omega arith

neither : {X : Type 0} (a b : Option X) → option_or a b ≡ None → (a ≡ None) × (b ≡ None)
neither None b e = (refl, e)
neither (Some x) b e = absurd (none-some x (sym e))

not_found : {X : Type 0} (b : Bool) (x : X) → cond b (Some x) None ≡ None → b ≡ false
not_found true x e = absurd (none-some x (sym e))
not_found false x e = refl

-- where none is found, none passes
pub none_below : (test : ℕ → Bool) (n : ℕ) → find test (below n) ≡ None → (i : ℕ) → i < n → test i ≡ false
none_below test zero e i l = absurd (omega arith)
none_below test (suc n) e i l =
    let both = neither (find test (below n)) (cond (test n) (Some n) None) (sym (find-append test (below n) (n ∷ [])) ∙ e) in
    elim (eq-or-lt_of_le (le_of_suc-le-suc l)) [
      | inl same ↦ subst (λ j. test j ≡ false) (sym same) (not_found (test n) n both.1)
      | inr less ↦ none_below test n both.0 i less
    ]

pub all_below : (test : ℕ → Bool) (n : ℕ) → ((i : ℕ) → i < n → test i ≡ true) → list_all test (below n) ≡ true
all_below test zero each = refl
all_below test (suc n) each =
    list_all-append test (below n) (n ∷ [])
    ∙ ap₂ (λ a b. a && (b && true)) (all_below test n (λ i l. each i (omega (arith, l)))) (each n (omega arith))

-- each number found at a place of the list is below
pub below_at : (n j k : ℕ) → slice_get (below n) j ≡ Some k → k < n
below_at zero j k e = absurd (none-some _ e)
below_at (suc n) j k e = elim (at_one_more (below n) j e) [
  | inl at ↦ let l = below_at n j k at in omega (arith, l)
  | inr same ↦ omega (arith, same)
]
  where
    at_one_more : (xs : List ℕ) (i : ℕ) → slice_get (xs ++ n ∷ []) i ≡ Some k → (slice_get xs i ≡ Some k) ⊎ (k ≡ n)
    at_one_more [] zero is = inr (sym (same_Some _ _ is))
    at_one_more [] (suc i) is = absurd (none-some _ is)
    at_one_more (x ∷ xs) zero is = inl is
    at_one_more (x ∷ xs) (suc i) is = at_one_more xs i is
