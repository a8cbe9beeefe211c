use Rattle.revirt_tool.proofs.SameRuns.{same_are_kept}
use Rattle.revirt_tool.proofs.top.recordings_are_one.Goals as goal

pub returns : goal.returns
returns c = same_are_kept
