-- The entries of a hart so far, and the room for more.
use Rattle.std.specs.Prelude.{ℕ, ◌++◌, ◌∷◌, [], Bool, List, if◌then◌else◌}
use Rattle.log_entry.specs.declared.log.Entry.{Entry}

-- `entries` tell no room of their waits, of which a log says nothing (log_entry/specs/Room), and `room` is how many the list has
-- room for beside an End
pub record Lane : Type 0 where
  pub entries : List Entry
  pub room : ℕ

-- rows of harts with a number, and how many the list has room for
pub record Rows (N : Type 0) : Type 0 where
  pub rows : List (ℕ × N)
  pub room : ℕ

-- the rows with one more, where there is one to be
abbrev pub row_where : {N : Type 0} → Bool → ℕ × N → List (ℕ × N) → List (ℕ × N)
row_where b row rows = if b then rows ++ row ∷ [] else rows
