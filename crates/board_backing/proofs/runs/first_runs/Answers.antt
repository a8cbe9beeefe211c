use Rattle.std.proofs.Common.{◌∙◌}
use Rattle.run_model.specs.Run.{run_at_start}
use Rattle.board_backing.proofs.FirstRuns.{mapped_more}
use Rattle.board_backing.proofs.runs.first_runs.Goals as goal

pub loop-hart-preserved : goal.loop-hart-preserved
loop-hart-preserved c =
    c.in-Ok-push.ensures.items
    ∙ mapped_more (λ h. run_at_start h c.args.harts c.args.image.now) c.loop-hart.hart c.loop-hart.runs.items c.in_ok-run.run' c.loop-hart.invariant
    c.in_ok-run.ensures.run
