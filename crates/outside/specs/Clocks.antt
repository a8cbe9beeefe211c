-- What contracts see of the clock in memory.
use Rattle.std.specs.Prelude.{ℕ, ◌+◌, ◌*◌, ◌-◌, ◌^◌, ◌++◌, ◌∷◌, List, [], min, nat_lt, zero, suc}
use Rattle.outside.specs.Seen.{SeenClock}

-- a clock in memory: its first answer, the step to each further one, and how many it gave
pub record MemClockState : Type 0 where
  pub first : ℕ
  pub step : ℕ
  pub given : ℕ

-- the answer of this number, from 0: at most the last number of 64 bits
abbrev pub tick_at : ℕ → ℕ → ℕ → ℕ
tick_at first step n = min (first + step * n) (2 ^ 64 - 1)

-- the answers of a clock that was asked so often
abbrev pub ticks : ℕ → ℕ → ℕ → List ℕ
ticks first step zero = []
ticks first step (suc n) = ticks first step n ++ tick_at first step n ∷ []

-- it tells its answers as long as their number can be told
abbrev pub seen_of_clock : MemClockState → SeenClock
seen_of_clock c = record { tells = nat_lt c.given (2 ^ 64 - 1); answers = ticks c.first c.step c.given }
