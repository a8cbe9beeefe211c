-- The numbered calls of the forms in memory.
use Rattle.std.specs.Prelude.{ℕ, ◌+◌, ◌-◌, ◌^◌, min, List, Bool, not, nat_eq, IsTrue, if◌then◌else◌}
use Rattle.std.specs.List.{list_any}

-- the numbered calls of a form in memory: those that are to fail, the number of the next call, and the count of faults
pub record Numbered : Type 0 where
  pub fails : List ℕ
  pub next : ℕ
  pub faults : ℕ

-- one more, up to the last number of 64 bits
abbrev pub one_more : ℕ → ℕ
one_more n = min (n + 1) (2 ^ 64 - 1)

-- the first call has the number 0
abbrev pub calls_at_start : List ℕ → Numbered
calls_at_start fails = record { fails = fails; next = 0; faults = 0 }

-- the next call is one of those that are to fail
abbrev pub fails_next : Numbered → Bool
fails_next c = list_any (λ y. nat_eq y c.next) c.fails

-- the next call is none of them
abbrev pub GoesThrough : Numbered → Type 0
GoesThrough c = IsTrue (not (fails_next c))

-- the calls after the next one, which failed or did not
abbrev pub after_call : Numbered → Bool → Numbered
after_call c failed =
    record c { next = one_more c.next; faults = if failed then one_more c.faults else c.faults }
