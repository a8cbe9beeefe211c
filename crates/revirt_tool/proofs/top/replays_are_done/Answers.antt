use Rattle.revirt_tool.proofs.ReplaysDone.{replays_done, kept_are_replayed}
use Rattle.revirt_tool.proofs.top.replays_are_done.Goals as goal

pub returns-clause-done : goal.returns-clause-done
returns-clause-done c = replays_done

pub returns-clause-kept : goal.returns-clause-kept
returns-clause-kept c = kept_are_replayed
