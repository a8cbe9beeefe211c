-- A leg of one hart of a replay, and its turn (docs/threads.md).
use Rattle.std.specs.Prelude.{ℕ, ◌≡◌, ◌++◌, ◌∷◌, [], Some}
use Rattle.log_entry.specs.Parts.{unit_of}
use Rattle.run_model.specs.Run.{Run}
use Rattle.run_model.specs.Legs.{KeepsPages, MakesLeg}
use Rattle.run_model.specs.declared.asked.Pause.{Pause}
use Rattle.turn_table.specs.declared.table.Pass.{Pass}
use Rattle.turn_table.specs.declared.table.TurnTable.{TurnTable}
use Rattle.turn_table.specs.Passes as passes
use Rattle.turn_table.specs.Passes.{IsIdle, IsPassOf, hart_of, turns_of}
use Rattle.replay_core.specs.declared.went.Pace.{Pace}
use Rattle.replay_core.specs.declared.went.Pace.TheVariants.{Go}
use Rattle.replay_core.specs.Turns.{told}
use Rattle.replay_core.specs.Items.{IsStuck}
use Rattle.replay_parts.specs.Boards.{Plain, state_of}
use Rattle.replay_parts.specs.Parts.{IsPart, Part, part_of}
use Rattle.replay_parts.specs.Turns.{IsTurn, Told}
use Rattle.free_replay.specs.Parts.{IsOnRecord, MayMoveTo}

-- The pass is this table's, doesn't hold the board, and has the part on record that the run is, which may stay where it is.
pub record IsReady (t : TurnTable Plain Part) (p : Pass Plain Part) (r : Run) : Type 0 where
  pub table : IsPassOf t p
  pub idle : IsIdle p
  pub on_record : IsOnRecord (passes.part_of p) r
  pub here : MayMoveTo (passes.part_of p) r r.count

-- The pass took one board and gave one back, with one turn of its hart in between. The part on record was the hart's part of the board that
-- was taken, and is that of the one given. The turn committed just the moves of the leg that the run made from the state where the board stood.
pub record HasTurnOnce (old new : Pass Plain Part) (before after : Run) (until : ℕ) (told : Told) : Type 0 where
  pub taken : Plain
  pub given : Plain
  pub turns : turns_of new ≡ turns_of old ++ (taken, given) ∷ []
  pub was : passes.part_of old ≡ Some (part_of taken (hart_of old))
  pub is : passes.part_of new ≡ Some (part_of given (hart_of old))
  pub moved : Run
  pub pause : Pause
  pub kept : KeepsPages before moved
  pub leg : MakesLeg (unit_of taken.log) moved pause (hart_of old) until (state_of taken)
  pub turn : IsTurn taken given (hart_of old) leg.leg.moves told
  pub part : IsPart given (hart_of old) after

-- The hart had a leg and its turn: pass and run are ready again, and a hart that is told to go on may move that far.
pub record HasLed (t : TurnTable Plain Part) (old new : Pass Plain Part) (before after : Run) (until : ℕ) (pace : Pace) : Type 0 where
  pub ready : IsReady t new after
  pub hart : hart_of new ≡ hart_of old
  pub turn : HasTurnOnce old new before after until (told pace)
  pub go : (to : ℕ) → pace ≡ Go to → MayMoveTo (passes.part_of new) after to

-- The latest turn of the pass is the one turn that it had since, and from the board that it gave no hart can go on.
pub record GaveStuck (old new : Pass Plain Part) : Type 0 where
  pub taken : Plain
  pub given : Plain
  pub turns : turns_of new ≡ turns_of old ++ (taken, given) ∷ []
  pub stuck : IsStuck given.log (state_of given)
