-- The first number of a range that passes a test.
use Rattle.std.proofs.Common.{◌≡◌, inl, inr, ℕ, zero, suc, ◌+◌, ◌<◌, ◌≤◌, Bool, true, false, cond, Option, Some, None, find, refl, ap, ◌∙◌, sym, arith}
use Rattle.std.specs.List.{range_with_len}
use Rattle.std.proofs.lemmas.Bool.{cases_eq}

module _ (p : ℕ → Bool) where
  pub none_from : (a n : ℕ) → ((g : ℕ) → a ≤ g → g < a + n → p g ≡ false) → find p (range_with_len a n) ≡ None
  none_from a zero h = refl
  none_from a (suc n) h =
      ap (λ b. cond b (Some a) (find p (range_with_len (a + 1) n))) (h a (omega arith) (omega arith))
      ∙ none_from (a + 1) n (λ g l m. h g (omega arith) (omega arith))

  pub first_from : (a n k : ℕ) → a ≤ k → k < a + n → ((g : ℕ) → a ≤ g → g < k → p g ≡ false) → p k ≡ true → find p (range_with_len a n) ≡ Some k
  first_from a zero k l m h t = absurd (omega arith)
  first_from a (suc n) k l m h t = elim (cases_eq a k) [
    | inl e ↦ ap (λ b. cond b (Some a) (find p (range_with_len (a + 1) n))) (ap p e ∙ t) ∙ ap Some e
    | inr d ↦
        ap (λ b. cond b (Some a) (find p (range_with_len (a + 1) n))) (h a (omega arith) (omega arith))
        ∙ first_from (a + 1) n k (omega arith) (omega arith) (λ g x y. h g (omega arith) y) t
  ]

  not_at : (b : Bool) (a : ℕ) (rest : Option ℕ) → cond b (Some a) rest ≡ None → (b ≡ false) × (rest ≡ None)
  not_at true a rest e = let bad : ⊥ = cc in absurd bad
  not_at false a rest e = (refl, e)

  -- where none is found, none passes
  pub none_passes : (a n g : ℕ) → find p (range_with_len a n) ≡ None → a ≤ g → g < a + n → p g ≡ false
  none_passes a zero g e l m = absurd (omega arith)
  none_passes a (suc n) g e l m =
      let both = not_at (p a) a (find p (range_with_len (a + 1) n)) e in
      elim (cases_eq a g) [
        | inl s ↦ sym (ap p s) ∙ both.0
        | inr d ↦ none_passes (a + 1) n g both.1 (omega arith) (omega arith)
      ]
