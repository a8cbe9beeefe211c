-- What recording a run keeps and reports: the promise of the program (docs/recorder.md, docs/replay.md).
use Rattle.std.specs.Prelude.{ℕ, ◌≡◌, ◌≢◌, ◌<◌, ◌≤◌, ◌++◌, ◌∷◌, [], Bool, true, false, List, length, slice_index, Some, None, IfSome, IsTrue, Ok}
use Rattle.outside.specs.Seen.{SeenShelf, Holds}
use Rattle.rv_words.specs.declared.shared.Cause.{Cause}
use Rattle.rv_words.specs.declared.shared.Cause.TheVariants as causes
use Rattle.elf_image.specs.Image.{Image, start_digest}
use Rattle.elf_image.specs.Loading.{image_of}
use Rattle.elf_image.specs.Rules.{broken_rule}
use Rattle.flat_machine.specs.State.{FlatState, flat_at_start}
use Rattle.flat_machine.specs.Runs.{flat, final_of}
use Rattle.log_entry.specs.declared.log.Entry.{Entry}
use Rattle.log_entry.specs.declared.log.Entry.TheVariants.{End}
use Rattle.log_entry.specs.declared.log.Log.{Log}
use Rattle.log_entry.specs.Parts.{unit_of}
use Rattle.log_entry.specs.Room.{log_without_room}
use Rattle.log_format.specs.Grammar.{spelling, reading}
use Rattle.order_rules.specs.Orderly.{IsOrderly}
use Rattle.order_rules.specs.Places.{stream}
use Rattle.replay_model.specs.Board.{board}
use Rattle.replay_model.specs.State.{Replay, start}
use Rattle.replay_model.specs.Items.{IsFullOrder, story}
use Rattle.replay_model.specs.Acts.{acts_of}
use Rattle.replay_model.specs.Journal.{order_of, IsLean}
use Rattle.replay_model.specs.Outcome.{Done, IsOutcome}
use Rattle.crew_parts.specs.Boards.{World}
use Rattle.report_view.specs.Report.{report}
use Rattle.revirt_tool.specs.Tasks.{Wish}
use Rattle.revirt_tool.specs.Files.{IsFetched}
use Rattle.revirt_tool.specs.Recordings.{Comes}
use Rattle.revirt_tool.specs.declared.ending.File.TheVariants as files

-- the log is of what the words ask and of the image's start, and has a stream for each hart, with an End at the hart's count
pub record HasHead (w : Wish) (image : Image) (s : FlatState) (log : Log) : Type 0 where
  pub pages : log.pages ≡ w.pages
  pub limit : log.limit ≡ w.limit
  pub start_is : log.image ≡ start_digest image
  pub harts : length log.streams ≡ w.harts
  pub streams : (h : ℕ) → h < w.harts → (entries : List Entry) × (stream log h ≡ entries ++ End (slice_index s.counts h) ∷ [])

abbrev pub is_fault : Cause → Bool
is_fault causes.Fault = true
is_fault cause = false

-- the names of the log and of the dump hold these, and every other name what it held
pub record HoldsNow (w : Wish) (log dump : List ℕ) (s t : SeenShelf) : Type 0 where
  pub log_held : Holds t w.log log
  pub dump_held : IsTrue t.tells → IfSome w.dump (λ name. t.held name ≡ Some dump)
  pub others : IsTrue t.tells → (n : List ℕ) → n ≢ w.log → w.dump ≢ Some n → t.held n ≡ s.held n
  pub faults : t.faults ≡ s.faults

-- where the replays of a log over an image with so many harts begin
abbrev pub replay_at_start : Log → Image → ℕ → Replay FlatState
replay_at_start log image harts = start log (flat_at_start image harts)

-- an order obeys the log over an image, is full, and ends in this state
abbrev pub EndsFull : Log → Image → ℕ → List ℕ → Replay FlatState → Type 0
EndsFull log image harts order end = IsFullOrder (board (unit_of log)) log (replay_at_start log image harts) order end

-- every full order ends where this one does, drives the flat machine from the image's start there, and each hart has the same story
abbrev pub AllEndThere : (log : Log) (image : Image) (harts : ℕ) (order : List ℕ) (end : Replay FlatState) → EndsFull log image harts order end → Type 0
AllEndThere log image harts order end full =
    (other : List ℕ) (t : Replay FlatState) (one : EndsFull log image harts other t)
    → (t ≡ end)
    × (flat image harts (acts_of (board (unit_of log)) log (replay_at_start log image harts) other) ≡ Some end.flat)
    × ((h : ℕ) → story (board (unit_of log)) log h one.0 ≡ story (board (unit_of log)) log h full.0)

-- A run was recorded of the image, and its log is kept. It is the recording of the image that is asked for, in rounds or with free harts
-- by its list of turns, with these options and with what console and clock gave in the call: where they tell it, these very answers,
-- which are the log's inputs and times, and the bytes that the console took are those sent. The log is orderly, and is read again from
-- what is kept. The order of its journal obeys it, is full and lean, and every full order that obeys it drives the flat machine from the
-- image's start to the state that is reported, with the same story of each hart; a replay of the log is done there.
pub record KeepsRecording (w : Wish) (text : List ℕ) (fault : Bool) (s t : SeenShelf) (o p : World) : Type 0 where
  pub file : List ℕ
  pub fetched : IsFetched files.Image w.image s file
  pub accepted : broken_rule w.pages file ≡ None
  pub log : Log
  pub journal : List (ℕ × ℕ)
  pub turns : List (ℕ × ℕ)
  pub end : Replay FlatState
  pub head : HasHead w (image_of w.pages file) end.flat log
  pub comes : Comes w (image_of w.pages file) o p log (final_of end.flat log.cause) journal turns
  pub ends_there : comes.run.at ≡ end.flat
  pub orderly : IsOrderly log
  pub full : EndsFull log (image_of w.pages file) w.harts (order_of journal) end
  pub lean : IsLean (board (unit_of log)) log (replay_at_start log (image_of w.pages file) w.harts) (order_of journal)
  pub every : AllEndThere log (image_of w.pages file) w.harts (order_of journal) end full
  pub replayed : IsOutcome (board (unit_of log)) log (flat_at_start (image_of w.pages file) w.harts) (Done end.flat)
  pub kept : HoldsNow w (spelling log) (end.flat.memory ++ end.flat.devices.sent) s t
  pub within : length (spelling log) ≤ w.log_limit
  pub again : reading (spelling log) ≡ Ok (log_without_room log)
  pub reported : text ≡ report (final_of end.flat log.cause)
  pub fault_is : fault ≡ is_fault log.cause
