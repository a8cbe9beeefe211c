-- How a trace ends: the moves that it prints (docs/trace.md, docs/replay.md).
use Rattle.std.specs.Prelude.{ℕ, ◌≡◌, false, List, Result, Ok, Err}
use Rattle.outside.specs.Seen.{SeenShelf}
use Rattle.elf_image.specs.Image.{Image}
use Rattle.flat_machine.specs.declared.results.Final.{Final}
use Rattle.flat_machine.specs.declared.results.Step.{Step}
use Rattle.log_entry.specs.declared.log.Log.{Log}
use Rattle.replay_core.specs.Stories.{IsStoryOf}
use Rattle.report_view.specs.Trace.{trace}
use Rattle.revirt_tool.specs.Tasks.{TraceWish}
use Rattle.revirt_tool.specs.Files.{IsUntouched}
use Rattle.revirt_tool.specs.Replays.{EndsAt, OutcomeAs, AreReadFor, ReplaysAs}
use Rattle.revirt_tool.specs.declared.ending.Ending.{Ending}
use Rattle.revirt_tool.specs.declared.ending.Ending.TheVariants.{Kept}

-- the replay is done, and this is the trace of the hart's moves along the least order, from the one count on, below the other
pub record TellsMoves (w : TraceWish) (text : List ℕ) (log : Log) (image : Image) : Type 0 where
  pub end : Final
  pub ends : EndsAt log image end
  pub steps : List Step
  pub moves : IsStoryOf log image w.hart w.from w.to steps
  pub told : text ≡ trace w.from steps

-- what telling a hart's moves comes to
abbrev pub TellsAs : {B : Type 0} → (B → List ℕ) → TraceWish → Log → Image → Result B Ending → Type 0
TellsAs bytes w log image (Ok text) = TellsMoves w (bytes text) log image
TellsAs bytes w log image (Err ending) = OutcomeAs log image (Err ending)

-- how a trace ends: with the moves told, or as a replay that keeps no dump
abbrev pub TracesAs : TraceWish → SeenShelf → SeenShelf → Ending → Type 0
TracesAs w s t (Kept text fault) = AreReadFor w.files s t (λ log image. TellsMoves w text.items log image) × IsUntouched s t × (fault ≡ false)
TracesAs w s t ending = ReplaysAs w.files s t ending
