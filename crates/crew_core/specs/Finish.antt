-- What a board comes to (docs/recorder.md).
use Rattle.std.specs.Prelude.{ℕ, ◌≡◌, ◌++◌, ◌∷◌, [], List, length, slice_get, Some, unwrap_or}
use Rattle.rv_words.specs.declared.shared.Cause.TheVariants.{Limit}
use Rattle.log_entry.specs.declared.log.Entry.{Entry}
use Rattle.log_entry.specs.declared.log.Entry.TheVariants.{End}
use Rattle.log_entry.specs.Room.{log_without_room}
use Rattle.flat_machine.specs.State.{FlatState}
use Rattle.flat_machine.specs.Runs.{final_of}
use Rattle.run_model.specs.Run.{Run}
use Rattle.run_model.specs.Agreement.{Agrees}
use Rattle.turn_model.specs.Board.{Board, log_of}
use Rattle.crew_parts.specs.Boards.{the_machine}
use Rattle.crew_core.specs.declared.crew.Crew.{Crew}
use Rattle.crew_core.specs.declared.finish.Finished.{Finished}
use Rattle.crew_core.specs.declared.seat.Seat.{Seat}
use Rattle.crew_core.specs.Standing.{Stands, terms_of}

abbrev pub ended_stream : Seat → List Entry
ended_stream s = s.lane.entries ++ End s.count ∷ []

-- the runs are those of the harts, in their order
pub record HasRuns (runs : List Run) (b : Board FlatState) : Type 0 where
  pub number : length runs ≡ length b.streams
  pub agree : (h : ℕ) (r : Run) → slice_get runs h ≡ Some r → Agrees r h b.at

abbrev pub HasSomeRuns : Crew → List Run → Type 0
HasSomeRuns c runs = (b : Board FlatState) × Stands c b × HasRuns runs b

-- the log of the board, and its flat state with the cause
pub record IsFinished (c : Crew) (b : Board FlatState) (f : Finished) : Type 0 where
  pub log : log_without_room f.log ≡ log_of the_machine (terms_of c) b
  pub ended : f.ended ≡ final_of b.at.flat (unwrap_or b.closed Limit)

-- so it is of each board that the crew stands for and whose runs these are
abbrev pub Finishes : Crew → List Run → Finished → Type 0
Finishes c runs f = (b : Board FlatState) → Stands c b → HasRuns runs b → IsFinished c b f
