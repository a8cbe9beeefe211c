use Rattle.std.proofs.Common.{refl}
use Rattle.revirt_tool.specs.Tasks.{trace_by}
use Rattle.revirt_tool.proofs.Recordings.{untouched}
use Rattle.revirt_tool.proofs.ReplaySteps.{image_since}
use Rattle.revirt_tool.proofs.TraceSteps.{no_log, no_start, no_end}
use Rattle.revirt_tool.proofs.tracing.traced.Goals as goal

pub returns-in-Err-clause-traces : goal.returns-in-Err-clause-traces
returns-in-Err-clause-traces g c = no_log (trace_by c.args.request.now) _ _ c.in-Err.ending c.in-Err.ensures.log

pub returns-in-Err-start_for-clause-traces : goal.returns-in-Err-start_for-clause-traces
returns-in-Err-start_for-clause-traces g c =
    no_start (trace_by c.args.request.now) _ _ _ c.in-Ok.log c.in-Ok.ensures.log c.in-Err-start_for.ensures.tells
    c.in-Err-start_for.ending c.in-Err-start_for.ensures.start

pub returns-in-Ok-moves_told-clause-traces : goal.returns-in-Ok-moves_told-clause-traces
returns-in-Ok-moves_told-clause-traces g c =
    let start = c.in-Ok-start_for.ensures.start in
    let read = c.in-Ok.ensures.log in
    let tells = c.in-Ok-start_for.ensures.tells in (
      (
        c.in-Ok.log,
        read.1,
        (
          c.in-Ok-start_for.image,
          image_since c.args.request.now.image.now _ _ _ c.in-Ok.log c.in-Ok-start_for.image read.0 tells start.1,
          start.2,
          c.in-Ok-moves_told.ensures,
        ),
      ),
      untouched _ _ _ read.0 tells start.0,
      refl,
    )

pub returns-clause-traces : goal.returns-clause-traces
returns-clause-traces g c =
    no_end (trace_by c.args.request.now) _ _ _ c.in-Ok.log c.in-Ok.ensures.log c.in-Ok-start_for.ensures.tells c.in-Ok-start_for.image
    c.in-Err-moves_told.ending c.in-Ok-start_for.ensures.start c.in-Err-moves_told.ensures
