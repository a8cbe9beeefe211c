use Rattle.revirt_tool.proofs.Completeness.{recordings_done}
use Rattle.revirt_tool.proofs.top.recordings_are_done.Goals as goal

pub returns : goal.returns
returns c = recordings_done
