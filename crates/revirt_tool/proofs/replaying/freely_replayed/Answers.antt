use Rattle.revirt_tool.specs.Tasks.{replay_by}
use Rattle.revirt_tool.proofs.ReplaySteps.{replayed_so, reportable}
use Rattle.revirt_tool.proofs.replaying.freely_replayed.Goals as goal

pub keep_outcome-requires-clause-end : goal.keep_outcome-requires-clause-end
keep_outcome-requires-clause-end g c = reportable _ _ c.free_outcome_of-outcome.result c.free_outcome_of-outcome.ensures

pub returns-in-Ok-clause-replays : goal.returns-in-Ok-clause-replays
returns-in-Ok-clause-replays g c =
    replayed_so (replay_by c.args.request.now) _ _ _ _ _ c.free_outcome_of-outcome.result c.in-Ok.ensures.tells c.in-Ok.ensures.files
    c.free_outcome_of-outcome.ensures
    c.keep_outcome.ensures.tells c.keep_outcome.result c.keep_outcome.ensures.keeps
