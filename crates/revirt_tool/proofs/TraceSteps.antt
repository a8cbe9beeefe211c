-- What the steps of a trace come to together.
use Rattle.std.proofs.Common.{Ok, Err}
use Rattle.outside.specs.Seen.{SeenShelf, ToldBefore}
use Rattle.elf_image.specs.Image.{Image}
use Rattle.log_entry.specs.declared.log.Log.{Log}
use Rattle.revirt_tool.specs.Tasks.{TraceWish}
use Rattle.revirt_tool.specs.Listings.{LogAs}
use Rattle.revirt_tool.specs.Replays.{StartAs, OutcomeAs}
use Rattle.revirt_tool.specs.Traces.{TracesAs}
use Rattle.revirt_tool.specs.declared.ending.Ending.{Ending}
use Rattle.revirt_tool.specs.declared.ending.Ending.TheVariants.{Kept}
use Rattle.revirt_tool.proofs.ReplaySteps.{log_fails, start_fails, outcome_fails}

-- a log that isn't there for the trace
pub no_log : (w : TraceWish) (s t : SeenShelf) (ending : Ending) → LogAs w.files.log s t (Err ending) → TracesAs w s t ending
no_log w s t (Kept text fault) read = absurd read
no_log w s t ending read = log_fails w.files s t ending read

module _ (w : TraceWish) (s m t : SeenShelf) (log : Log) (read : LogAs w.files.log s m (Ok log)) (tells : ToldBefore m.tells t.tells) where
  -- an image that isn't there
  pub no_start : (ending : Ending) → StartAs w.files.image log m t (Err ending) → TracesAs w s t ending
  no_start (Kept text fault) start = absurd start
  no_start ending start = start_fails w.files s m t log read tells ending start

  -- a log that isn't replayed to its end
  pub no_end : (image : Image) (ending : Ending) → StartAs w.files.image log m t (Ok image) → OutcomeAs log image (Err ending) → TracesAs w s t ending
  no_end image (Kept text fault) start ends = absurd ends
  no_end image ending start ends = outcome_fails w.files s m t log read tells image ending start ends
