-- What tests say of the passes of a table.
use Rattle.std.specs.Prelude.{◌≡◌, ℕ, ◌+◌, List, [], ◌∷◌}
use Rattle.turn_table.specs.declared.table.Pass.{Pass}
use Rattle.turn_table.specs.declared.table.TurnTable.{TurnTable}
use Rattle.turn_table.specs.Passes.{IsPassOf, IsIdle, hart_of}

module _ {B P : Type 0} where
  -- the pass is this table's, of this hart, and doesn't hold the board
  pub record IsReady (t : TurnTable B P) (hart : ℕ) (p : Pass B P) : Type 0 where
    pub table : IsPassOf t p
    pub idle : IsIdle p
    pub of_hart : hart_of p ≡ hart

  -- of a hart and of the next one
  pub record AreBoth (t : TurnTable B P) (hart : ℕ) (passes : Pass B P × Pass B P) : Type 0 where
    pub first : IsReady t hart passes.0
    pub second : IsReady t (hart + 1) passes.1

  -- of a hart and of those behind it
  abbrev pub AreFrom : TurnTable B P → ℕ → List (Pass B P) → Type 0
  AreFrom t hart [] = Unit {0}
  AreFrom t hart (p ∷ ps) = IsReady t hart p × AreFrom t (hart + 1) ps
