-- How a replay ends: what it reports, and what it leaves (docs/replay.md).
use Rattle.std.specs.Prelude.{ℕ, ◌≡◌, ◌≢◌, ◌⊎◌, ◌++◌, false, List, length, Some, None, IfSome, IsSome, IsTrue, Result, Ok, Err}
use Rattle.outside.specs.Causes.{Rose}
use Rattle.outside.specs.Seen.{SeenShelf}
use Rattle.rv_words.specs.declared.shared.Cause.TheVariants as causes
use Rattle.elf_image.specs.Image.{Image, start_digest}
use Rattle.elf_image.specs.Loading.{image_of}
use Rattle.elf_image.specs.Rules.{broken_rule}
use Rattle.flat_machine.specs.State.{FlatState}
use Rattle.flat_machine.specs.Runs.{final_of}
use Rattle.flat_machine.specs.declared.results.Final.{Final}
use Rattle.log_entry.specs.declared.log.Log.{Log}
use Rattle.log_entry.specs.Parts.{unit_of}
use Rattle.order_rules.specs.Orderly.{IsOrderly, IsLeastBreak}
use Rattle.replay_model.specs.Board.{board}
use Rattle.replay_model.specs.Outcome.{IsOutcome}
use Rattle.replay_model.specs.Outcome as outcomes
use Rattle.replay_law.specs.Laws.{first_flat}
use Rattle.replay_core.specs.declared.outcome.Outcome.{Outcome}
use Rattle.replay_core.specs.declared.outcome.Outcome.TheVariants as told
use Rattle.report_view.specs.Report.{report}
use Rattle.revirt_tool.specs.Tasks.{ReplayWish}
use Rattle.revirt_tool.specs.Files.{WasFetched, IsUntouched, FailsToFetch, IsTooLong, WasTooLong}
use Rattle.revirt_tool.specs.Listings.{IsLogOf, IsMalformed}
use Rattle.revirt_tool.specs.declared.ending.File.TheVariants as files
use Rattle.revirt_tool.specs.declared.ending.Ending.{Ending}
use Rattle.revirt_tool.specs.declared.ending.Ending.TheVariants.{TooLong, ImageRefused, Malformed, OtherImage, Disorderly, Diverged, NoMemory, ShelfFault, Kept}

-- the file of the image was fetched, and breaks no rule on a board with the log's pages
pub record IsImageOf (name : List ℕ) (s t : SeenShelf) (log : Log) (image : Image) : Type 0 where
  pub file : List ℕ
  pub fetched : WasFetched files.Image name s t file
  pub accepted : broken_rule log.pages file ≡ None
  pub read : image ≡ image_of log.pages file

-- it was fetched and breaks a rule
pub record IsRefusedOf (name : List ℕ) (s t : SeenShelf) (log : Log) (rule : ℕ) : Type 0 where
  pub file : List ℕ
  pub fetched : WasFetched files.Image name s t file
  pub breaks : broken_rule log.pages file ≡ Some rule

-- its start isn't the one that the log names
pub record IsOther (name : List ℕ) (s t : SeenShelf) (log : Log) (named has : List ℕ) : Type 0 where
  pub image : Image
  pub read : IsImageOf name s t log image
  pub named_is : named ≡ log.image
  pub has_is : has ≡ start_digest image
  pub differ : named ≢ has

-- what fetching the image of a log comes to
abbrev pub StartAs : List ℕ → Log → SeenShelf → SeenShelf → Result Image Ending → Type 0
StartAs name log s t (Ok image) = IsUntouched s t × IsImageOf name s t log image × (start_digest image ≡ log.image)
StartAs name log s t (Err (TooLong files.Image)) = WasTooLong files.Image name s t
StartAs name log s t (Err (ImageRefused rule)) = IsRefusedOf name s t log rule × IsUntouched s t
StartAs name log s t (Err (OtherImage named has)) = IsOther name s t log named has × IsUntouched s t
StartAs name log s t (Err NoMemory) = IsUntouched s t
StartAs name log s t (Err ShelfFault) = FailsToFetch s t
StartAs name log s t (Err ending) = ⊥

-- what judging a log comes to
abbrev pub OrderAs : Log → Result Log Ending → Type 0
OrderAs log (Ok orderly) = IsOrderly log × (orderly ≡ log)
OrderAs log (Err (Disorderly rule hart entry)) = IsLeastBreak log rule hart entry
OrderAs log (Err NoMemory) = Unit {0}
OrderAs log (Err ending) = ⊥

-- an end that a report can tell
pub record IsReportable (end : Final) : Type 0 where
  pub counts : length end.harts ≡ length end.counts
  pub stop : end.cause ≡ causes.Stop → IsSome end.stop

-- a replay of the log over the image is done at this end
pub record EndsAt (log : Log) (image : Image) (end : Final) : Type 0 where
  pub orderly : IsOrderly log
  pub state : FlatState
  pub done : IsOutcome (board (unit_of log)) log (first_flat log image) (outcomes.Done state)
  pub end_is : end ≡ final_of state log.cause

-- it diverges
pub record DivergesAt (log : Log) (image : Image) (hart count rule : ℕ) : Type 0 where
  pub orderly : IsOrderly log
  pub state : FlatState
  pub diverged : IsOutcome (board (unit_of log)) log (first_flat log image) (outcomes.Diverged hart count rule state)

-- where a replay ended that came to this
abbrev pub told_of : Outcome → Result Final Ending
told_of (told.Done end) = Ok end
told_of (told.Diverged hart count why state) = Err (Diverged hart count why)

-- what replaying a log comes to
abbrev pub OutcomeAs : Log → Image → Result Final Ending → Type 0
OutcomeAs log image (Ok end) = EndsAt log image end × IsReportable end
OutcomeAs log image (Err (Disorderly rule hart entry)) = IsLeastBreak log rule hart entry
OutcomeAs log image (Err (Diverged hart count rule)) = DivergesAt log image hart count rule
OutcomeAs log image (Err NoMemory) = Unit {0}
OutcomeAs log image (Err ending) = ⊥

-- the dump's name holds the memory and then the bytes sent, and every other name what it held
pub record HoldsDump (w : ReplayWish) (end : Final) (s t : SeenShelf) : Type 0 where
  pub dump_held : IsTrue t.tells → IfSome w.dump (λ name. t.held name ≡ Some (end.memory ++ end.sent))
  pub others : IsTrue t.tells → (n : List ℕ) → w.dump ≢ Some n → t.held n ≡ s.held n
  pub faults : t.faults ≡ s.faults

-- keeping the dump that was asked for failed, and every other name holds what it held
pub record FailsToDump (w : ReplayWish) (s t : SeenShelf) : Type 0 where
  pub asked : IsSome w.dump
  pub rose : Rose s.faults t.faults
  pub others : IsTrue t.tells → (n : List ℕ) → w.dump ≢ Some n → t.held n ≡ s.held n

-- what keeping the end of a replay comes to
abbrev pub KeepsReplayAs : ReplayWish → Final → SeenShelf → SeenShelf → Ending → Type 0
KeepsReplayAs w end s t (Kept text fault) = HoldsDump w end s t × (text.items ≡ report end) × (fault ≡ false)
KeepsReplayAs w end s t NoMemory = IsUntouched s t
KeepsReplayAs w end s t ShelfFault = FailsToDump w s t
KeepsReplayAs w end s t ending = ⊥

-- what comes of an outcome: an end is kept, and an ending stays as it is
abbrev pub KeepsOutcomeAs : ReplayWish → Result Final Ending → SeenShelf → SeenShelf → Ending → Type 0
KeepsOutcomeAs w (Ok end) s t ending = KeepsReplayAs w end s t ending
KeepsOutcomeAs w (Err refused) s t ending = (ending ≡ refused) × (t ≡ s)

-- the log was read, of which this holds
abbrev pub IsLogFor : ReplayWish → SeenShelf → (Log → Type 0) → Type 0
IsLogFor w s P = (log : Log) × IsLogOf w.log s log × P log

-- the log and the image were read, the image's start is the log's, and this holds of them
abbrev pub AreReadFor : ReplayWish → SeenShelf → SeenShelf → (Log → Image → Type 0) → Type 0
AreReadFor w s t P = IsLogFor w s (λ log. (image : Image) × IsImageOf w.image s t log image × (start_digest image ≡ log.image) × P log image)

-- the end of a replay was kept, and this is its report
pub record KeepsReplay (w : ReplayWish) (text : List ℕ) (s t : SeenShelf) (log : Log) (image : Image) : Type 0 where
  pub end : Final
  pub ends : EndsAt log image end
  pub kept : HoldsDump w end s t
  pub reported : text ≡ report end

-- how a replay ends
abbrev pub ReplaysAs : ReplayWish → SeenShelf → SeenShelf → Ending → Type 0
ReplaysAs w s t (TooLong files.Log) = IsTooLong files.Log w.log s t
ReplaysAs w s t (Malformed offset rule) = IsMalformed w.log s offset rule × IsUntouched s t
ReplaysAs w s t (TooLong files.Image) = IsLogFor w s (λ log. WasTooLong files.Image w.image s t)
ReplaysAs w s t (ImageRefused rule) = IsLogFor w s (λ log. IsRefusedOf w.image s t log rule) × IsUntouched s t
ReplaysAs w s t (OtherImage named has) = IsLogFor w s (λ log. IsOther w.image s t log named has) × IsUntouched s t
ReplaysAs w s t (Disorderly rule hart entry) = AreReadFor w s t (λ log image. IsLeastBreak log rule hart entry) × IsUntouched s t
ReplaysAs w s t (Diverged hart count rule) = AreReadFor w s t (λ log image. DivergesAt log image hart count rule) × IsUntouched s t
ReplaysAs w s t NoMemory = IsUntouched s t
ReplaysAs w s t ShelfFault = FailsToFetch s t ⊎ (AreReadFor w s t (λ log image. (end : Final) × EndsAt log image end) × FailsToDump w s t)
ReplaysAs w s t (Kept text fault) = AreReadFor w s t (λ log image. KeepsReplay w text.items s t log image) × (fault ≡ false)
ReplaysAs w s t ending = ⊥

-- the log and the image that a replay is asked for were read, and belong together; nothing was kept
pub record AreFetched (w : ReplayWish) (s t : SeenShelf) (log : Log) (image : Image) : Type 0 where
  pub same : IsUntouched s t
  pub log_read : IsLogOf w.log s log
  pub image_read : IsImageOf w.image s t log image
  pub start : start_digest image ≡ log.image

-- what fetching them comes to
abbrev pub FilesAs : ReplayWish → SeenShelf → SeenShelf → Result (Log × Image) Ending → Type 0
FilesAs w s t (Ok files) = AreFetched w s t files.0 files.1
FilesAs w s t (Err ending) = ReplaysAs w s t ending
