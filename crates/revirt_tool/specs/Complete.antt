-- Where nothing fails a recording is done, and a recording's log is listed and replayed (docs/command-line.md).
use Rattle.std.specs.Prelude.{ℕ, ◌≡◌, ◌≤◌, ◌⊎◌, ◌↔◌, Bool, true, false, if◌then◌else◌, List, length, Some, None, IsTrue, Ok}
use Rattle.outside.specs.Causes.{Rose}
use Rattle.outside.specs.Seen.{SeenShelf}
use Rattle.elf_image.specs.Image.{Image, start_digest}
use Rattle.elf_image.specs.Loading.{image_of}
use Rattle.elf_image.specs.Rules.{broken_rule}
use Rattle.flat_machine.specs.State.{FlatState}
use Rattle.flat_machine.specs.Runs.{final_of}
use Rattle.flat_machine.specs.declared.results.Final.{Final}
use Rattle.flat_machine.specs.declared.results.Step.{Step}
use Rattle.log_entry.specs.declared.log.Log.{Log}
use Rattle.log_entry.specs.Parts.{unit_of}
use Rattle.log_entry.specs.Room.{log_without_room}
use Rattle.log_format.specs.Grammar.{spelling, reading}
use Rattle.order_rules.specs.Orderly.{IsOrderly}
use Rattle.replay_model.specs.Board.{board}
use Rattle.replay_model.specs.Outcome.{Done, IsOutcome}
use Rattle.replay_law.specs.Laws.{first_flat}
use Rattle.replay_core.specs.Stories.{IsStoryOf}
use Rattle.report_view.specs.Report.{report}
use Rattle.report_view.specs.Trace.{trace}
use Rattle.crew_parts.specs.Boards.{World}
use Rattle.revirt_tool.specs.Tasks.{Wish, ReplayWish, TraceWish, Records, Replays, Traces, Lists, Samples, task}
use Rattle.revirt_tool.specs.Files.{longest, IsUntouched}
use Rattle.revirt_tool.specs.declared.ending.File.TheVariants as files
use Rattle.revirt_tool.specs.Listings.{IsListing}
use Rattle.revirt_tool.specs.Samples.{IsSample}
use Rattle.revirt_tool.specs.Closing.{Prints}
use Rattle.revirt_tool.specs.Promise.{KeepsRecording}
use Rattle.revirt_tool.specs.Replays.{HoldsDump}
use Rattle.revirt_tool.specs.Serving.{Around, Serves}

-- the words ask for a recording of an image that the shelf tells, that isn't too long and breaks no rule
pub record HasImage (words : List (List ℕ)) (s : SeenShelf) : Type 0 where
  pub wanted : Wish
  pub is : task words ≡ Some (Records wanted)
  pub tells : IsTrue s.tells
  pub file : List ℕ
  pub held : s.held wanted.image ≡ Some file
  pub within : length file ≤ longest files.Image
  pub accepted : broken_rule wanted.pages file ≡ None

-- the shelf tells that this name holds the bytes of a log, not too many
pub record HoldsLog (name : List ℕ) (s : SeenShelf) : Type 0 where
  pub tells : IsTrue s.tells
  pub log : Log
  pub held : s.held name ≡ Some (spelling log)
  pub within : length (spelling log) ≤ longest files.Log
  pub again : reading (spelling log) ≡ Ok (log_without_room log)

-- the words ask for the listing of such a log
pub record HasLog (words : List (List ℕ)) (s : SeenShelf) : Type 0 where
  pub name : List ℕ
  pub is : task words ≡ Some (Lists name)
  pub holds : HoldsLog name s

-- the shelf holds such a log, which is orderly, and an image that isn't too long and breaks no rule on a board with the log's pages,
-- and whose start is the one that the log names; and the replay is done at this state
pub record HoldsReplay (w : ReplayWish) (s : SeenShelf) : Type 0 where
  pub holds : HoldsLog w.log s
  pub orderly : IsOrderly holds.log
  pub file : List ℕ
  pub held : s.held w.image ≡ Some file
  pub within : length file ≤ longest files.Image
  pub accepted : broken_rule holds.log.pages file ≡ None
  pub start_is : start_digest (image_of holds.log.pages file) ≡ holds.log.image
  pub state : FlatState
  pub done : IsOutcome (board (unit_of holds.log)) holds.log (first_flat holds.log (image_of holds.log.pages file)) (Done state)

-- the image in it
abbrev pub image_held : (w : ReplayWish) (s : SeenShelf) → HoldsReplay w s → Image
image_held w s there = image_of there.holds.log.pages there.file

-- what is reported of it
abbrev pub end_held : (w : ReplayWish) (s : SeenShelf) → HoldsReplay w s → Final
end_held w s there = final_of there.state there.holds.log.cause

-- the words ask for a replay of them
pub record HasReplay (words : List (List ℕ)) (s : SeenShelf) : Type 0 where
  pub wanted : ReplayWish
  pub is : task words ≡ Some (Replays wanted)
  pub there : HoldsReplay wanted s

-- or for a trace
pub record HasTrace (words : List (List ℕ)) (s : SeenShelf) : Type 0 where
  pub wanted : TraceWish
  pub is : task words ≡ Some (Traces wanted)
  pub there : HoldsReplay wanted.files s

-- no count of faults rose
pub record NothingFailed (before after : Around) : Type 0 where
  pub shelf : Rose before.shelf.faults after.shelf.faults → ⊥
  pub console : Rose before.sources.console.faults after.sources.console.faults → ⊥
  pub sink : Rose before.sink.faults after.sink.faults → ⊥

-- a run was recorded whose console didn't fail: its log and its dump are kept, and its report is what was printed
pub record IsRecorded (w : Wish) (before after : Around) (status : ℕ) : Type 0 where
  pub status_is : status ≡ 0
  pub text : List ℕ
  pub keeps : KeepsRecording w text false before.shelf after.shelf before.sources after.sources
  pub printed : Prints text before.sink after.sink

-- of words that ask for a recording of such an image: where no count of faults rises, it is recorded, or memory ran out
abbrev pub RecordingsAreDone : Type 0
RecordingsAreDone =
    (words : List (List ℕ)) (before after : Around) (status : ℕ)
    → Serves words before after status → (has : HasImage words before.shelf) → NothingFailed before after
    → IsRecorded has.wanted before after status ⊎ (status ≡ 3)

-- a log was listed: the listing is what was printed, the status tells whether the log is orderly, and nothing was kept
pub record IsListed (log : Log) (before after : Around) (status : ℕ) : Type 0 where
  pub text : List ℕ
  pub orderly : Bool
  pub judged : (orderly ≡ true) ↔ IsOrderly log
  pub listing : IsListing log text orderly
  pub status_is : status ≡ (if orderly then 0 else 7)
  pub printed : Prints text before.sink after.sink
  pub kept : IsUntouched before.shelf after.shelf

-- of words that ask for the listing of such a log: where no count of faults rises, it is listed, or memory ran out
abbrev pub ListingsAreDone : Type 0
ListingsAreDone =
    (words : List (List ℕ)) (before after : Around) (status : ℕ)
    → Serves words before after status → (has : HasLog words before.shelf) → NothingFailed before after
    → IsListed has.holds.log before after status ⊎ (status ≡ 3)

-- any shelf that tells and holds the log that a recording kept is such a shelf, and the log is orderly
abbrev pub KeptAreLogs : Type 0
KeptAreLogs =
    (w : Wish) (text : List ℕ) (fault : Bool) (s t : SeenShelf) (o p : World) (name : List ℕ) (u : SeenShelf)
    → (keeps : KeepsRecording w text fault s t o p) → w.log_limit ≤ longest files.Log → IsTrue u.tells → u.held name ≡ Some (spelling keeps.log)
    → (there : HoldsLog name u) × (there.log ≡ keeps.log) × IsOrderly there.log

-- a replay to this end was done: its dump is kept, and its report is what was printed
pub record IsReplayed (w : ReplayWish) (end : Final) (before after : Around) (status : ℕ) : Type 0 where
  pub status_is : status ≡ 0
  pub kept : HoldsDump w end before.shelf after.shelf
  pub printed : Prints (report end) before.sink after.sink

-- of words that ask for a replay over such a shelf: where it tells afterwards too, and no count of faults rises, it is done, or memory ran out
abbrev pub ReplaysAreDone : Type 0
ReplaysAreDone =
    (words : List (List ℕ)) (before after : Around) (status : ℕ)
    → Serves words before after status → (has : HasReplay words before.shelf) → IsTrue after.shelf.tells → NothingFailed before after
    → IsReplayed has.wanted (end_held has.wanted before.shelf has.there) before after status ⊎ (status ≡ 3)

-- a trace of this log over this image was told: what was printed is the hart's moves along the least order, from the one count on, below the
-- other, and nothing was kept
pub record IsTraced (w : TraceWish) (log : Log) (image : Image) (before after : Around) (status : ℕ) : Type 0 where
  pub status_is : status ≡ 0
  pub steps : List Step
  pub moves : IsStoryOf log image w.hart w.from w.to steps
  pub printed : Prints (trace w.from steps) before.sink after.sink
  pub kept : IsUntouched before.shelf after.shelf

-- of words that ask for a trace over such a shelf: where it tells afterwards too, and no count of faults rises, it is told, or memory ran out
abbrev pub TracesAreDone : Type 0
TracesAreDone =
    (words : List (List ℕ)) (before after : Around) (status : ℕ)
    → Serves words before after status → (has : HasTrace words before.shelf) → IsTrue after.shelf.tells → NothingFailed before after
    → IsTraced has.wanted has.there.holds.log (image_held has.wanted.files before.shelf has.there) before after status ⊎ (status ≡ 3)

-- a sample was told: its summary is what was printed, and nothing was kept
pub record IsSummedUp (number : ℕ) (before after : Around) (status : ℕ) : Type 0 where
  pub status_is : status ≡ 0
  pub text : List ℕ
  pub sample : IsSample number text
  pub printed : Prints text before.sink after.sink
  pub kept : IsUntouched before.shelf after.shelf

-- of words that ask for a sample: it is told, or memory ran out, or the sink failed, with status 11 or where memory ran out
abbrev pub SamplesAreDone : Type 0
SamplesAreDone =
    (words : List (List ℕ)) (number : ℕ) (before after : Around) (status : ℕ)
    → Serves words before after status → task words ≡ Some (Samples number)
    → IsSummedUp number before after status ⊎ ((status ≡ 3) ⊎ ((status ≡ 11) × Rose before.sink.faults after.sink.faults))

-- any shelf that tells and holds the log that a recording kept, and the image that it was given, is such a shelf, for words that ask for
-- the replay or a trace of them; log and image are the recording's, and the replay's end is the recording's, so its dump is the
-- recording's, and its report the one that was printed
abbrev pub KeptAreReplayed : Type 0
KeptAreReplayed =
    (w : Wish) (text : List ℕ) (fault : Bool) (s t : SeenShelf) (o p : World) (r : ReplayWish) (u : SeenShelf)
    → (keeps : KeepsRecording w text fault s t o p) → w.log_limit ≤ longest files.Log
    → IsTrue u.tells → u.held r.log ≡ Some (spelling keeps.log) → u.held r.image ≡ Some keeps.file
    → (there : HoldsReplay r u) × (there.holds.log ≡ keeps.log) × (image_held r u there ≡ image_of w.pages keeps.file)
    × (end_held r u there ≡ final_of keeps.end.flat keeps.log.cause) × (report (end_held r u there) ≡ text)

-- What is recorded depends on the words, the image, and what console and clock gave, and with free harts on the turns, and on nothing
-- else: two runs of which these are the same keep the same bytes, and print the same report.
abbrev pub SameAreKept : Type 0
SameAreKept =
    (w : Wish) (text also : List ℕ) (fault faulty : Bool) (s t u v : SeenShelf) (o p q r : World)
    (one : KeepsRecording w text fault s t o p) (other : KeepsRecording w also faulty u v q r)
    → one.file ≡ other.file → one.comes.run.given ≡ other.comes.run.given → (w.free ≡ true → one.turns ≡ other.turns)
    → (spelling one.log ≡ spelling other.log) × (one.end.flat ≡ other.end.flat) × (text ≡ also)
