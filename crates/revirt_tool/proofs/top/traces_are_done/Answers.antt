use Rattle.revirt_tool.proofs.ReplaysDone.{traces_done}
use Rattle.revirt_tool.proofs.top.traces_are_done.Goals as goal

pub returns : goal.returns
returns c = traces_done
