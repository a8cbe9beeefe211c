-- Moves that are counted together.
use Rattle.std.proofs.Common.{◌≡◌, ℕ, zero, suc, ◌+◌, ◌^◌, ◌%◌, ◌<◌, true, None, refl, ap, ap₂, ◌∙◌, arith}
use Rattle.rv_csr.specs.State.{Csrs}
use Rattle.rv_csr.specs.Traps.{counted, counted_times, pending}

one_more : (a n : ℕ) → ((a + suc n) % 2 ^ 64 + 1) % 2 ^ 64 ≡ (a + suc (suc n)) % 2 ^ 64
one_more a n = omega arith

abbrev with_counters : Csrs → ℕ → ℕ → Csrs
with_counters s mcycle minstret = record s { mcycle = mcycle; minstret = minstret }

times_by : (n : ℕ) (s : Csrs) → counted_times (suc n) s ≡ with_counters s ((s.mcycle + suc n) % 2 ^ 64) ((s.minstret + suc n) % 2 ^ 64)
times_by zero s = refl
times_by (suc n) s = ap (counted true None) (times_by n s) ∙ ap₂ (with_counters s) (one_more s.mcycle n) (one_more s.minstret n)

-- so many moves add so much to each counter
pub times_are : (n : ℕ) (s : Csrs) → 0 < n
    → counted_times n s ≡ record s { mcycle = (s.mcycle + n) % 2 ^ 64; minstret = (s.minstret + n) % 2 ^ 64 }
times_are zero s l = absurd (omega (arith, l))
times_are (suc n) s l = times_by n s

-- and leave what is pending
pub times_pending : (n : ℕ) (s : Csrs) → pending (counted_times n s) ≡ pending s
times_pending zero s = refl
times_pending (suc n) s = times_pending n s
