use Rattle.revirt_tool.specs.Tasks.{replay_by}
use Rattle.revirt_tool.proofs.Recordings.{untouched}
use Rattle.revirt_tool.proofs.ReplaySteps.{files_fail, image_since, start_fails}
use Rattle.revirt_tool.proofs.replaying.files_for.Goals as goal

pub returns-in_err-image-clause-files : goal.returns-in_err-image-clause-files
returns-in_err-image-clause-files g c =
    files_fail (replay_by c.args.request.now) _ _ c.from_residual-in_err-image.result c.in_err-image.field-0.0
    c.from_residual-in_err-image.ensures.1
    (start_fails (replay_by c.args.request.now) _ _ _ c.in_ok-log.log c.in_ok-log.ensures.log c.in_err-image.ensures.tells
    c.in_err-image.field-0.0 c.in_err-image.ensures.start)

pub returns-clause-files : goal.returns-clause-files
returns-clause-files g c =
    let read = c.in_ok-log.ensures.log in
    let tells = c.in_ok-image.ensures.tells in
    let start = c.in_ok-image.ensures.start in
    record {
      same = untouched _ _ _ read.0 tells start.0;
      log_read = read.1;
      image_read = image_since c.args.request.now.image.now _ _ _ c.in_ok-log.log c.in_ok-image.image read.0 tells start.1;
      start = start.2;
    }
