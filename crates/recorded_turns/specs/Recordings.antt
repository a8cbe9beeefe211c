-- What a call that records a board comes to (docs/recorder.md).
use Rattle.std.specs.Prelude.{ℕ, ◌≡◌, ◌≢◌, ◌↔◌, ◌≤◌, true, false, List, Some, None}
use Rattle.rv_words.specs.declared.shared.Cause.TheVariants.{Cut, Fault}
use Rattle.outside.specs.Seen.{Takes}
use Rattle.log_entry.specs.declared.log.Log.{Log}
use Rattle.log_entry.specs.Parts.{unit_of}
use Rattle.log_entry.specs.Range.{in_range}
use Rattle.log_entry.specs.Room.{log_without_room}
use Rattle.log_entry.specs.Size.{size_of_log}
use Rattle.flat_machine.specs.State.{FlatState, flat_at_start}
use Rattle.flat_machine.specs.Runs.{final_of}
use Rattle.flat_machine.specs.declared.results.Final.{Final}
use Rattle.turn_model.specs.Board.{Board, Supply, Terms, is_over}
use Rattle.turn_model.specs.Lists.{RecordingEnd, listed, recorded_by_list}
use Rattle.turn_model.specs.Rounds.{IsRecordedInRounds}
use Rattle.turn_model.specs.Laws.{IsRight, OfHarts, first_board}
use Rattle.turn_laws.specs.EndLaws.{AreInLimits, CauseTells}
use Rattle.turn_laws.specs.Supplies.{followed_by}
use Rattle.lean_journals.specs.Laws.{IsLeanFrom}
use Rattle.crew_parts.specs.Boards.{Plain, World, the_machine, spent, terms_of}
use Rattle.crew_parts.specs.Turns.{CountsFaults, Gives, IsSpent}

-- a board's recording by a list of turns, and one in rounds
abbrev pub ByList : List (ℕ × ℕ) → Terms → Board FlatState → RecordingEnd FlatState → Type 0
ByList list terms b r = recorded_by_list the_machine terms list b ≡ Some r

abbrev pub InRounds : Terms → Board FlatState → RecordingEnd FlatState → Type 0
InRounds terms b r = IsRecordedInRounds the_machine terms b r

-- this log, without the room of its waits, with journal, turns and the state at the end, and with this left to give
abbrev pub recording : Log → List (ℕ × ℕ) → List (ℕ × ℕ) → FlatState → Supply → RecordingEnd FlatState
recording log journal turns at left = record { log = log_without_room log; journal = journal; turns = turns; ended = at; left = left }

-- the board before any turn, with this to be given
abbrev pub board_before : Plain → Supply → Board FlatState
board_before start supply = first_board (terms_of start) start.image start.harts supply

-- Console and clock gave something from the start on, and with it the recording is of this kind, whatever they give later, but for a
-- console that failed. The console's count of faults rose where its failure ended the run, and else stayed; what it took is what was
-- sent.
pub record Records (Kind : Terms → Board FlatState → RecordingEnd FlatState → Type 0) (start : Plain) (after : World) (log : Log) (ended : Final)
    (journal turns : List (ℕ × ℕ)) : Type 0 where
  pub limits : AreInLimits (terms_of start) start.image start.harts
  pub given : Supply
  pub gives : Gives start.now after given
  pub at : FlatState
  pub ended_is : ended ≡ final_of at log.cause
  pub recorded : (left : Supply) → (log.cause ≡ Fault → IsSpent left)
      → Kind (terms_of start) (board_before start (followed_by given left)) (recording log journal turns at left)
  pub faults : CountsFaults None (Some log.cause) start.now.console.faults after.console.faults
  pub taken : Takes ended.sent start.now.console after.console

-- a recording by a list of turns, and one in rounds
abbrev pub RecordsByList : List (ℕ × ℕ) → Plain → World → Log → Final → List (ℕ × ℕ) → List (ℕ × ℕ) → Type 0
RecordsByList list start after log ended journal turns = Records (ByList list) start after log ended journal turns

abbrev pub RecordsInRounds : Plain → World → Log → Final → List (ℕ × ℕ) → List (ℕ × ℕ) → Type 0
RecordsInRounds start after log ended journal turns = Records InRounds start after log ended journal turns

-- the log is orderly and within the log limit, the journal a full order of it, lean, and a run of the flat machine to the end, where a
-- replay is done; log, console and clock agree; the log can be written; and its cause tells
pub record IsRightBy (start : Plain) (given : Supply) (log : Log) (journal turns : List (ℕ × ℕ)) (at : FlatState) : Type 0 where
  pub right : IsRight (terms_of start) given (flat_at_start start.image start.harts) (record (recording log journal turns at spent) { log = log })
  pub lean : IsLeanFrom (flat_at_start start.image start.harts) (record (recording log journal turns at spent) { log = log })
  pub range : in_range log ≡ true
  pub size : size_of_log (unit_of log) log.streams ≤ start.log_limit
  pub tells : CauseTells (terms_of start) (recording log journal turns at spent)

-- So is each recording by a list of turns,
abbrev pub ListsAreRight : Type 0
ListsAreRight = (start : Plain) (after : World) (log : Log) (ended : Final) (journal turns : List (ℕ × ℕ)) (list : List (ℕ × ℕ))
    (is : RecordsByList list start after log ended journal turns) → OfHarts start.harts list → IsRightBy start is.given log journal turns is.at

-- and each in rounds.
abbrev pub RoundsAreRight : Type 0
RoundsAreRight = (start : Plain) (after : World) (log : Log) (ended : Final) (journal turns : List (ℕ × ℕ))
    (is : RecordsInRounds start after log ended journal turns) → IsRightBy start is.given log journal turns is.at

-- A list is cut exactly where it ended before the board was over,
abbrev pub ListsAreCut : Type 0
ListsAreCut = (start : Plain) (after : World) (log : Log) (ended : Final) (journal turns : List (ℕ × ℕ)) (list : List (ℕ × ℕ))
    (is : RecordsByList list start after log ended journal turns) → OfHarts start.harts list → (c : Board FlatState)
    → listed the_machine (terms_of start) list (board_before start is.given) ≡ Some c
    → (log.cause ≡ Cut) ↔ (is_over the_machine (terms_of start) c ≡ false)

-- and rounds never are.
abbrev pub RoundsAreNotCut : Type 0
RoundsAreNotCut = (start : Plain) (after : World) (log : Log) (ended : Final) (journal turns : List (ℕ × ℕ))
    → RecordsInRounds start after log ended journal turns → log.cause ≢ Cut

-- Two recordings in rounds for which console and clock gave the same are one, but for the room of their waits.
abbrev pub RoundsAreOne : Type 0
RoundsAreOne = (start : Plain) (after then : World) (log other : Log) (ended last : Final) (journal turns rows others : List (ℕ × ℕ))
    (is : RecordsInRounds start after log ended journal turns) (also : RecordsInRounds start then other last rows others) → is.given ≡ also.given
    → (log_without_room log ≡ log_without_room other) × (ended ≡ last) × (journal ≡ rows) × (turns ≡ others)
