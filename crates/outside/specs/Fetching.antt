-- When a fetch may answer what.
use Rattle.std.specs.Prelude.{◌≡◌, ℕ, ◌≤◌, ◌<◌, List, length, Option, Result, Ok, Err, IsSomeAnd, Bool, true, false}
use Rattle.outside.specs.declared.shelf.FetchError.{FetchError}
use Rattle.outside.specs.declared.shelf.FetchError.TheVariants.{Failed, TooLong, NoMemory}
use Rattle.outside.specs.Causes.{Rose}

-- the fetch answered that it failed
abbrev pub has_failed : {T : Type 0} → Result T FetchError → Bool
has_failed (Err Failed) = true
has_failed result = false

-- a failure comes only where the count rose, and any other answer leaves it
abbrev pub FetchCause : {T : Type 0} → ℕ → ℕ → Result T FetchError → Type 0
FetchCause before now (Ok x) = now ≡ before
FetchCause before now (Err Failed) = Rose before now
FetchCause before now (Err TooLong) = now ≡ before
FetchCause before now (Err NoMemory) = now ≡ before

pub record HasFetchCause {T : Type 0} (before now : ℕ) (result : Result T FetchError) : Type 0 where
  pub cause : FetchCause before now result
  pub later : before ≤ now

-- bytes are held, and are longer than a fetch asked for
abbrev pub IsPast : ℕ → Option (List ℕ) → Type 0
IsPast most held = IsSomeAnd held (λ b. most < length b)
