-- A loop that finds no place so far.
use Rattle.std.proofs.Common.{◌≡◌, ℕ, suc, ◌+◌, ◌<◌, Bool, false, sym, subst, inl, inr, arith, eq-or-lt_of_le, le_of_suc-le-suc}

pub one_more : (test : ℕ → Bool) (i : ℕ) → ((j : ℕ) → j < i → test j ≡ false) → test i ≡ false → (j : ℕ) → j < i + 1 → test j ≡ false
one_more test i h t j l = let m : j < suc i = omega (arith, l) in elim (eq-or-lt_of_le (le_of_suc-le-suc m)) [
  | inl same ↦ subst (λ k. test k ≡ false) (sym same) t
  | inr less ↦ h j less
]
