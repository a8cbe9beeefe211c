-- Recordings with free harts (docs/threads.md).
use Rattle.std.specs.Prelude.{ℕ, ◌≡◌, ◌≢◌, ◌<◌, true, false, List, length, Some}
use Rattle.log_entry.specs.declared.log.Log.{Log}
use Rattle.flat_machine.specs.State.{FlatState}
use Rattle.flat_machine.specs.declared.results.Final.{Final}
use Rattle.run_model.specs.Run.{Run}
use Rattle.turn_model.specs.Board.{Board, Terms, is_over}
use Rattle.turn_model.specs.Lists.{RecordingEnd, listed, comes_to}
use Rattle.turn_model.specs.Laws.{OfHarts}
use Rattle.crew_parts.specs.Boards.{Plain, World, the_machine, is_over_in}
use Rattle.crew_parts.specs.Parts.{AreParts, IsPart}
use Rattle.crew_parts.specs.Turns.{SameTerms}
use Rattle.recorded_turns.specs.Recordings.{Records}
use Rattle.free_run.specs.RecordBoards.{IsByTurns}

-- the turns of this list, of the board's harts, lead to a board that is over, and the recording is what that board comes to
pub record Freely (list : List (ℕ × ℕ)) (terms : Terms) (b : Board FlatState) (r : RecordingEnd FlatState) : Type 0 where
  pub harts : OfHarts (length b.streams) list
  pub last : Board FlatState
  pub leads : listed the_machine terms list b ≡ Some last
  pub over : is_over the_machine terms last ≡ true
  pub comes : comes_to the_machine terms last ≡ r

-- a recording with free harts: that by the list of turns which it hands back
abbrev pub RecordsFreely : Plain → World → Log → Final → List (ℕ × ℕ) → List (ℕ × ℕ) → Type 0
RecordsFreely start after log ended journal turns = Records (Freely turns) start after log ended journal turns

-- Hart h had turns: its run is its part, and a run that was another hart's part still is. The terms are as they were.
pub record GoesOn (old new : Plain) (h : ℕ) (after : Run) : Type 0 where
  pub terms : SameTerms old new
  pub part : IsPart new h after
  pub runs : (g : ℕ) (x : Run) → g < old.harts → g ≢ h → IsPart old g x → IsPart new g x

-- Turns alone led to the board, whose terms are as they were. It is over, and the runs are its harts' parts, unless memory ran out.
pub record HaveRun (start q : Plain) (runs : List Run) : Type 0 where
  pub terms : SameTerms start q
  pub turns : IsByTurns q
  pub ended : q.abandoned ≡ false → AreParts q runs × (is_over_in q ≡ true)
