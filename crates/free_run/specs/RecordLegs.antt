-- A leg of one hart, and its turn (docs/threads.md).
use Rattle.std.specs.Prelude.{ℕ, ◌≡◌, ◌==◌, ◌++◌, ◌∷◌, [], not, Bool, length, Some}
use Rattle.rv_words.specs.Limits.{page_bytes}
use Rattle.run_model.specs.Run.{Run}
use Rattle.run_model.specs.Legs.{KeepsPages, MakesLeg}
use Rattle.run_model.specs.declared.asked.Pause.{Pause}
use Rattle.hart_run.specs.Calls.{LegAgrees}
use Rattle.turn_model.specs.Board.{Order}
use Rattle.turn_table.specs.declared.table.Pass.{Pass}
use Rattle.turn_table.specs.declared.table.TurnTable.{TurnTable}
use Rattle.turn_table.specs.Passes as passes
use Rattle.turn_table.specs.Passes.{IsIdle, IsPassOf, hart_of, turns_of}
use Rattle.crew_core.specs.declared.order.Order.TheVariants.{Go}
use Rattle.crew_core.specs.Orders.{told}
use Rattle.crew_parts.specs.Boards.{Plain, is_over_in, state_of}
use Rattle.crew_parts.specs.Parts.{Part, part_of}
use Rattle.crew_parts.specs.Turns.{HasTurn}
use Rattle.free_run.specs.Parts.{IsOnRecord, MayMoveTo}
use Rattle.free_run.specs.RecordBoards.{abandoned_in}
use Rattle.free_run.specs.declared.legs.Led.{Led}

-- the run made its leg up to this count
abbrev pub HasGoneTo : ℕ → Run → Run → Type 0
HasGoneTo until old new = (pause : Pause) × KeepsPages old new × LegAgrees old new until pause

-- The pass took one board and gave one back, with one turn of its hart in between. The part on record was the hart's part of the board that
-- was taken, and is that of the one given. The turn made just the moves of the leg that the run made from the state where the board stood.
pub record HasTurnOnce (old new : Pass Plain Part) (before after : Run) (until : ℕ) (order : Order) (over : Bool) : Type 0 where
  pub taken : Plain
  pub given : Plain
  pub turns : turns_of new ≡ turns_of old ++ (taken, given) ∷ []
  pub was : passes.part_of old ≡ Some (part_of taken (hart_of old))
  pub is : passes.part_of new ≡ Some (part_of given (hart_of old))
  pub moved : Run
  pub pause : Pause
  pub kept : KeepsPages before moved
  pub leg : MakesLeg page_bytes moved pause (hart_of old) until (state_of taken)
  pub had : HasTurn taken given (hart_of old) moved after order
  pub moves : had.moves ≡ leg.leg.moves
  pub over_is : over ≡ is_over_in given

-- The pass took one board and gave it back abandoned, without a turn. The part on record was the hart's part of that board, and is the same.
pub record HasNoTurn (old new : Pass Plain Part) : Type 0 where
  pub taken : Plain
  pub turns : turns_of new ≡ turns_of old ++ (taken, abandoned_in taken) ∷ []
  pub was : passes.part_of old ≡ Some (part_of taken (hart_of old))
  pub part : passes.part_of new ≡ passes.part_of old

-- The hart had a leg and its turn: the pass is the same hart's, is this table's and doesn't hold the board, the run is the part on record, and
-- may stay where it is, or move as far as it is told to go on.
pub record HasLed (t : TurnTable Plain Part) (old new : Pass Plain Part) (before after : Run) (until : ℕ) (led : Led) : Type 0 where
  pub table : IsPassOf t new
  pub idle : IsIdle new
  pub hart : hart_of new ≡ hart_of old
  pub turn : HasTurnOnce old new before after until (told led.order) led.over
  pub part : IsOnRecord (passes.part_of new) after
  pub go : (to : ℕ) → led.order ≡ Go to → MayMoveTo (passes.part_of new) after to
  pub here : MayMoveTo (passes.part_of new) after after.count

-- whether the one turn between these has a row in the list of turns
pub record TellsChange (old new : Pass Plain Part) (changed : Bool) : Type 0 where
  pub taken : Plain
  pub given : Plain
  pub turns : turns_of new ≡ turns_of old ++ (taken, given) ∷ []
  pub is : changed ≡ not (length given.turns == length taken.turns)

-- Memory was refused for its turn: the pass is the same hart's, is this table's and doesn't hold the board, which was given back abandoned,
-- and the run made its leg.
pub record WasRefused (t : TurnTable Plain Part) (old new : Pass Plain Part) (before after : Run) (until : ℕ) : Type 0 where
  pub table : IsPassOf t new
  pub idle : IsIdle new
  pub hart : hart_of new ≡ hart_of old
  pub none : HasNoTurn old new
  pub leg : HasGoneTo until before after
