-- How recordings end, and that their logs can be written (docs/recorder.md).
use Rattle.std.specs.Prelude.{ℕ, ◌≡◌, ◌+◌, ◌-◌, ◌^◌, ◌<◌, ◌≤◌, true, List, replicate, length, Option, Some, None}
use Rattle.rv_words.specs.Limits.{most_moves}
use Rattle.rv_words.specs.declared.shared.Mode.TheVariants.{Write}
use Rattle.rv_words.specs.declared.shared.Cause.TheVariants.{Full, Fault}
use Rattle.rv_words.specs.declared.shared.DeviceWord.{DeviceWord}
use Rattle.rv_words.specs.declared.shared.TheConstants.{MAX_HARTS}
use Rattle.device_board.specs.Recording.{uses_console}
use Rattle.elf_image.specs.Image.{Image, IsWhole}
use Rattle.flat_machine.specs.State.{FlatState}
use Rattle.log_entry.specs.declared.log.Entry.{Entry}
use Rattle.log_entry.specs.declared.log.Entry.TheVariants.{Gain}
use Rattle.log_entry.specs.declared.log.Log.{Log}
use Rattle.log_entry.specs.Parts.{unit_of}
use Rattle.log_entry.specs.Size.{size_in, size_of_log, frame_size}
use Rattle.log_entry.specs.Range.{in_range}
use Rattle.turn_model.specs.Board.{Board, Supply, Terms, unit_in, log_of}
use Rattle.turn_model.specs.Lists.{RecordingEnd, recorded_by_list}
use Rattle.turn_model.specs.Rounds.{IsRecordedInRounds}
use Rattle.turn_model.specs.Laws.{OfHarts, machine_in, first_board}
use Rattle.turn_laws.specs.Laws.{IsReachable, IsTurnFrom}

-- the greatest entry: a Gain that waits as often as a Gain can
abbrev pub greatest : Entry
greatest =
    Gain 0 0 0 Write (record { items = replicate (MAX_HARTS - 1) (record { hart = 0; count = 0 }); room = 0 })

-- with the greatest entry the log would pass the log limit
abbrev pub IsFull : Terms → Log → Type 0
IsFull terms log =
    terms.log_limit < size_of_log (unit_of log) log.streams + size_in (unit_of log) (length log.streams) greatest

-- stop isn't set, and the next move of one of the harts is a load of RX or a store to TX
pub record IsAtConsole (terms : Terms) (harts : ℕ) (s : FlatState) : Type 0 where
  pub running : s.devices.stop ≡ None
  pub hart : ℕ
  pub inside : hart < harts
  pub word : DeviceWord
  pub store : Option ℕ
  pub access : (machine_in terms).access s hart ≡ Some (word, store)
  pub console : uses_console word store ≡ true

-- A turn that closes a board by a full log left no room for the greatest entry.
abbrev pub FullIsFull : Type 0
FullIsFull = (terms : Terms) (image : Image) (harts : ℕ) (supply : Supply) (g n : ℕ) (b d : Board FlatState)
    → terms.pages ≡ image.pages → harts ≤ MAX_HARTS → IsTurnFrom terms image harts supply g n b d
    → b.closed ≡ None → d.closed ≡ Some Full → IsFull terms (log_of (machine_in terms) terms d)

-- One that closes it by a fault leaves its hart at the console.
abbrev pub FaultIsAtConsole : Type 0
FaultIsAtConsole = (terms : Terms) (image : Image) (harts : ℕ) (supply : Supply) (g n : ℕ) (b d : Board FlatState)
    → terms.pages ≡ image.pages → harts ≤ MAX_HARTS → IsTurnFrom terms image harts supply g n b d
    → b.closed ≡ None → d.closed ≡ Some Fault → IsAtConsole terms harts d.at.flat

-- what the cause of a recording says of its log and its end
pub record CauseTells (terms : Terms) (r : RecordingEnd FlatState) : Type 0 where
  pub full : r.log.cause ≡ Full → IsFull terms r.log
  pub fault : r.log.cause ≡ Fault → IsAtConsole terms (length r.log.streams) r.ended

-- So it does of a recording by a list, and of one in rounds: turns behind the one that closed the board leave it.
abbrev pub ListsTell : Type 0
ListsTell = (terms : Terms) (image : Image) (harts : ℕ) (supply : Supply) (list : List (ℕ × ℕ))
    (r : RecordingEnd FlatState)
    → IsWhole image → terms.pages ≡ image.pages → harts ≤ MAX_HARTS → OfHarts harts list
    → recorded_by_list (machine_in terms) terms list (first_board terms image harts supply) ≡ Some r
    → CauseTells terms r

abbrev pub RoundsTell : Type 0
RoundsTell = (terms : Terms) (image : Image) (harts : ℕ) (supply : Supply) (r : RecordingEnd FlatState)
    → IsWhole image → terms.pages ≡ image.pages → harts ≤ MAX_HARTS
    → IsRecordedInRounds (machine_in terms) terms (first_board terms image harts supply) r → CauseTells terms r

-- terms and a number of harts that a recording of the image can have
pub record AreInLimits (terms : Terms) (image : Image) (harts : ℕ) : Type 0 where
  pub whole : IsWhole image
  pub pages : terms.pages ≡ image.pages
  pub least_harts : 1 ≤ harts
  pub most_harts : harts ≤ MAX_HARTS
  pub limit : terms.limit ≤ most_moves
  pub frame : frame_size (unit_in terms) harts ≤ terms.log_limit
  pub bytes : terms.log_limit < 2 ^ 32

-- The log of each board that turns lead to, were the run to end there, can be written.
abbrev pub BoardsAreInRange : Type 0
BoardsAreInRange = (terms : Terms) (image : Image) (harts : ℕ) (supply : Supply) (b : Board FlatState)
    → AreInLimits terms image harts → IsReachable terms image harts supply b → in_range (log_of (machine_in terms) terms b) ≡ true

-- So can the log of each recording.
abbrev pub ListsAreInRange : Type 0
ListsAreInRange = (terms : Terms) (image : Image) (harts : ℕ) (supply : Supply) (list : List (ℕ × ℕ))
    (r : RecordingEnd FlatState) → AreInLimits terms image harts → OfHarts harts list
    → recorded_by_list (machine_in terms) terms list (first_board terms image harts supply) ≡ Some r
    → in_range r.log ≡ true

abbrev pub RoundsAreInRange : Type 0
RoundsAreInRange = (terms : Terms) (image : Image) (harts : ℕ) (supply : Supply) (r : RecordingEnd FlatState)
    → AreInLimits terms image harts
    → IsRecordedInRounds (machine_in terms) terms (first_board terms image harts supply) r → in_range r.log ≡ true
