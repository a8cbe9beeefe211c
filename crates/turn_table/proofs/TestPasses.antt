-- The passes of a table, as tests take them off and put them back.
use Rattle.std.specs.Prelude.{slice_get, slice_index_or, Contains, All}
use Rattle.std.proofs.Common.{◌≡◌, ℕ, zero, suc, ◌+◌, ◌<◌, ◌≤◌, List, [], ◌∷◌, ◌++◌, map, length, Some, refl, ◌∙◌, subst, arith, ◌⊎◌, inl, inr}
use Rattle.std.proofs.lemmas.Bool.{cases_eq, cases_lt}
use Rattle.std.proofs.lemmas.List.Elements.{All-nil, All-cons, All-head, All-tail}
use Rattle.turn_table.specs.declared.table.Pass.{Pass}
use Rattle.turn_table.specs.declared.table.TurnTable.{TurnTable}
use Rattle.turn_table.specs.Passes.{IsPassOf, IsIdle, hart_of}
use Rattle.turn_table.specs.TestPasses.{IsReady, AreFrom}

module _ {B P : Type 0} (t : TurnTable B P) where
  pub front : (k : ℕ) (ps : List (Pass B P)) (p : Pass B P) → AreFrom t k (ps ++ p ∷ []) → AreFrom t k ps × IsReady t (k + length ps) p
  front k [] p each = let same : k ≡ k + 0 = omega arith in (tt, subst (λ h. IsReady t h p) same each.0)
  front k (q ∷ ps) p each =
      let later = front (k + 1) ps p each.1 in
      let same : k + 1 + length ps ≡ k + suc (length ps) = omega arith in
      ((each.0, later.0), subst (λ h. IsReady t h p) same later.1)

  pub one_more : (k : ℕ) (ps : List (Pass B P)) (p : Pass B P) → AreFrom t k ps → IsReady t (k + length ps) p → AreFrom t k (ps ++ p ∷ [])
  one_more k [] p each ready = let same : k + 0 ≡ k = omega arith in (subst (λ h. IsReady t h p) same ready, tt)
  one_more k (q ∷ ps) p each ready =
      let same : k + suc (length ps) ≡ k + 1 + length ps = omega arith in
      (each.0, one_more (k + 1) ps p each.1 (subst (λ h. IsReady t h p) same ready))

  pub all_from : (k : ℕ) (ps : List (Pass B P)) → All (λ p. IsPassOf t p × IsIdle p) ps
      → ((h : ℕ) (p : Pass B P) → slice_get ps h ≡ Some p → hart_of p ≡ k + h) → AreFrom t k ps
  all_from k [] each harts = tt
  all_from k (p ∷ ps) each harts =
      let here = All-head (λ q. IsPassOf t q × IsIdle q) p ps each in
      let first = harts 0 p refl in (
        record { table = here.0; idle = here.1; of_hart = omega (arith, first) },
        all_from (k + 1) ps (All-tail (λ q. IsPassOf t q × IsIdle q) p ps each) (λ h q at. let next = harts (suc h) q at in omega (arith, next)),
      )

  pub contains_each : (k h : ℕ) (ps : List (Pass B P)) → AreFrom t k ps → k ≤ h → h < k + length ps → Contains (map hart_of ps) h
  contains_each k h [] each from below = absurd (omega (arith, from, below))
  contains_each k h (p ∷ ps) each from below = elim (cases_eq k h) [
    | inl same ↦ let hart = each.0.of_hart in (0, omega arith, hart ∙ same)
    | inr apart ↦
        let later = contains_each (k + 1) h ps each.1 (beyond (cases_lt k h) apart) (omega (arith, below)) in
        (suc later.0, omega (arith, later.1), later.2)
  ]
    where
      beyond : (k < h) ⊎ (h ≤ k) → (k ≡ h → ⊥) → k + 1 ≤ h
      beyond (inl less) apart = omega (arith, less)
      beyond (inr past) apart = absurd (apart (omega (arith, from, past)))

  pub all_ready : (k : ℕ) (ps : List (Pass B P)) → AreFrom t k ps → All (λ p. IsPassOf t p × IsIdle p) ps
  all_ready k [] each = All-nil _
  all_ready k (p ∷ ps) each = All-cons (λ q. IsPassOf t q × IsIdle q) p ps (each.0.table, each.0.idle) (all_ready (k + 1) ps each.1)
