-- What a call does with the words, and with which status it answers (docs/command-line.md).
use Rattle.std.specs.Prelude.{ℕ, ◌≡◌, ◌≢◌, ◌⊎◌, ◌++◌, IfSome, List, length, Some, None, IsTrue, Err, Result, Ok}
use Rattle.outside.specs.Causes.{Rose}
use Rattle.outside.specs.Seen.{SeenShelf, SeenConsole, SeenClock, SeenSink, Holds}
use Rattle.elf_image.specs.Image.{Image}
use Rattle.elf_image.specs.Loading.{image_of}
use Rattle.elf_image.specs.Rules.{broken_rule}
use Rattle.command_words.specs.Grammar.{job_of}
use Rattle.flat_machine.specs.declared.results.Final.{Final}
use Rattle.log_entry.specs.declared.log.Log.{Log}
use Rattle.log_entry.specs.Parts.{unit_of}
use Rattle.log_entry.specs.Size.{size_of_log}
use Rattle.log_entry.specs.Room.{log_without_room}
use Rattle.log_format.specs.Grammar.{spelling, reading}
use Rattle.report_view.specs.Report.{report}
use Rattle.crew_parts.specs.Boards.{World, world}
use Rattle.recorder.specs.Manned.{HasGiven}
use Rattle.revirt_tool.specs.Closing.{Closes}
use Rattle.revirt_tool.specs.Tasks.{Wish, Task, Records, Replays, Traces, Lists, Samples, task}
use Rattle.revirt_tool.specs.Files.{IsFetched, IsUntouched, FailsToFetch, IsTooLong}
use Rattle.revirt_tool.specs.Listings.{InspectsAs}
use Rattle.revirt_tool.specs.Replays.{ReplaysAs}
use Rattle.revirt_tool.specs.Traces.{TracesAs}
use Rattle.revirt_tool.specs.Samples.{SamplesAs}
use Rattle.revirt_tool.specs.Recordings.{Comes}
use Rattle.revirt_tool.specs.Promise.{HoldsNow, KeepsRecording, is_fault}
use Rattle.revirt_tool.specs.declared.ending.File.TheVariants as files
use Rattle.revirt_tool.specs.declared.ending.Ending.{Ending}
use Rattle.revirt_tool.specs.declared.ending.Ending.TheVariants.{Usage, TooLong, ImageRefused, NoMemory, ShelfFault, Kept}

-- a recording whose image was fetched and breaks a rule
pub record IsRefused (w : Wish) (s : SeenShelf) (rule : ℕ) : Type 0 where
  pub file : List ℕ
  pub fetched : IsFetched files.Image w.image s file
  pub breaks : broken_rule w.pages file ≡ Some rule

-- the fetched image breaks no rule, so that a run was begun
pub record IsAccepted (w : Wish) (s : SeenShelf) : Type 0 where
  pub file : List ℕ
  pub fetched : IsFetched files.Image w.image s file
  pub accepted : broken_rule w.pages file ≡ None

-- keeping failed at the log, and the dump's name holds what it held, or at the dump, and the log is kept; other names are as before
pub record FailsToKeep (w : Wish) (log : List ℕ) (s t : SeenShelf) : Type 0 where
  pub rose : Rose s.faults t.faults
  pub others : IsTrue t.tells → (n : List ℕ) → n ≢ w.log → w.dump ≢ Some n → t.held n ≡ s.held n
  pub log_first : (IsTrue t.tells → IfSome w.dump (λ name. t.held name ≡ s.held name)) ⊎ Holds t w.log log

-- a run was recorded that couldn't be kept
pub record IsUnkept (w : Wish) (s t : SeenShelf) (o p : World) : Type 0 where
  pub file : List ℕ
  pub fetched : IsFetched files.Image w.image s file
  pub accepted : broken_rule w.pages file ≡ None
  pub log : Log
  pub ended : Final
  pub journal : List (ℕ × ℕ)
  pub turns : List (ℕ × ℕ)
  pub comes : Comes w (image_of w.pages file) o p log ended journal turns
  pub fails : FailsToKeep w (spelling log) s t

-- nothing was kept, and neither console nor clock was asked
abbrev pub IsRefusal : SeenShelf → SeenShelf → World → World → Type 0
IsRefusal s t o p = IsUntouched s t × (p ≡ o)

-- what fetching and reading the image comes to
abbrev pub ImageAs : Wish → SeenShelf → SeenShelf → Result Image Ending → Type 0
ImageAs w s t (Ok image) =
    IsUntouched s t
    × ((file : List ℕ) × IsFetched files.Image w.image s file × (broken_rule w.pages file ≡ None) × (image ≡ image_of w.pages file))
ImageAs w s t (Err (TooLong files.Image)) = IsTooLong files.Image w.image s t
ImageAs w s t (Err (ImageRefused rule)) = IsRefused w s rule × IsUntouched s t
ImageAs w s t (Err NoMemory) = IsUntouched s t
ImageAs w s t (Err ShelfFault) = FailsToFetch s t
ImageAs w s t (Err ending) = ⊥

-- what keeping a run comes to
abbrev pub KeepsAs : Wish → Log → Final → SeenShelf → SeenShelf → Ending → Type 0
KeepsAs w log ended s t NoMemory = IsUntouched s t
KeepsAs w log ended s t ShelfFault = FailsToKeep w (spelling log) s t
KeepsAs w log ended s t (Kept text fault) =
    HoldsNow w (spelling log) (ended.memory ++ ended.sent) s t
    × (length (spelling log) ≡ size_of_log (unit_of log) log.streams)
    × (reading (spelling log) ≡ Ok (log_without_room log))
    × (text.items ≡ report ended)
    × (fault ≡ is_fault ended.cause)
KeepsAs w log ended s t ending = ⊥

-- how a recording ends
abbrev pub RecordsAs : Wish → SeenShelf → SeenShelf → World → World → Ending → Type 0
RecordsAs w s t o p (TooLong files.Image) = IsTooLong files.Image w.image s t × (p ≡ o)
RecordsAs w s t o p (ImageRefused rule) = IsRefused w s rule × IsRefusal s t o p
RecordsAs w s t o p NoMemory = IsUntouched s t × ((p ≡ o) ⊎ (IsAccepted w s × HasGiven o p))
RecordsAs w s t o p ShelfFault = (FailsToFetch s t × (p ≡ o)) ⊎ IsUnkept w s t o p
RecordsAs w s t o p (Kept report fault) = KeepsRecording w report.items fault s t o p
RecordsAs w s t o p ending = ⊥

-- how what the words ask for ends; replays, traces and listings ask neither console nor clock, and a sample asks those of its own
abbrev pub TaskAs : Task → SeenShelf → SeenShelf → World → World → Ending → Type 0
TaskAs (Records w) s t o p ending = RecordsAs w s t o p ending
TaskAs (Replays w) s t o p ending = ReplaysAs w s t ending × (p ≡ o)
TaskAs (Traces w) s t o p ending = TracesAs w s t ending × (p ≡ o)
TaskAs (Lists name) s t o p ending = InspectsAs name s t ending × (p ≡ o)
TaskAs (Samples number) s t o p ending = SamplesAs number ending × IsRefusal s t o p

-- how the words end: outside the grammar, or in what they ask for
abbrev pub EndsAs : List (List ℕ) → SeenShelf → SeenShelf → World → World → Ending → Type 0
EndsAs words s t o p (Usage place) = (job_of words ≡ Err place) × IsRefusal s t o p
EndsAs words s t o p ending = (a : Task) × (task words ≡ Some a) × TaskAs a s t o p ending

-- what is seen around a call: of the shelf, of console and clock, and of the sink of the report
pub record Around : Type 0 where
  pub shelf : SeenShelf
  pub sources : World
  pub sink : SeenSink

abbrev pub around : SeenShelf → SeenConsole → SeenClock → SeenSink → Around
around shelf console clock sink = record { shelf = shelf; sources = world console clock; sink = sink }

-- the whole contract of the top calls
abbrev pub Serves : List (List ℕ) → Around → Around → ℕ → Type 0
Serves words before after status =
    (ending : Ending)
    × EndsAs words before.shelf after.shelf before.sources after.sources ending
    × Closes ending before.sink after.sink status
