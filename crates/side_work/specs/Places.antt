-- Where a caller and a worker meet (docs/threads.md). The caller has the first pass of the table, and the worker the second.
use Rattle.std.specs.Prelude.{◌≡◌, Bool, true, false, [], ◌∷◌, Option, Some, None}
use Rattle.turn_table.specs.declared.table.Pass.{Pass}
use Rattle.turn_table.specs.declared.table.TurnTable.{TurnTable}
use Rattle.turn_table.specs.Passes.{IsPassOf, IsIdle, IsHolding, hart_of, part_of, noted_of}

-- what lies there is the piece as it was handed in, or made
abbrev pub IsMade : {W : Type 0} → (W → W → Type 0) → Bool → Option W → Option W → Type 0
IsMade makes false asked work = work ≡ asked
IsMade makes true (Some old) (Some new) = makes old new
IsMade makes true None work = ⊥
IsMade makes true (Some old) None = ⊥

module _ {B W : Type 0} where
  -- the caller has the desk
  pub record IsHeld (t : TurnTable B (Option W)) (p : Pass B (Option W)) : Type 0 where
    pub table : IsPassOf t p
    pub holds : IsHolding p
    pub first : hart_of p ≡ 0
    pub asked : Option W
    pub noted : noted_of p ≡ asked ∷ None ∷ []

  -- the caller handed this piece in
  pub record IsLent (t : TurnTable B (Option W)) (p : Pass B (Option W)) (asked : W) : Type 0 where
    pub table : IsPassOf t p
    pub idle : IsIdle p
    pub first : hart_of p ≡ 0
    pub part : part_of p ≡ Some (Some asked)

  -- the worker has the table's second pass, and nothing in its hands
  pub record IsServed (t : TurnTable B (Option W)) (p : Pass B (Option W)) : Type 0 where
    pub table : IsPassOf t p
    pub idle : IsIdle p
    pub second : hart_of p ≡ 1
