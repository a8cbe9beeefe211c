use Rattle.revirt_tool.proofs.Completeness.{samples_done}
use Rattle.revirt_tool.proofs.top.samples_are_done.Goals as goal

pub returns : goal.returns
returns c = samples_done
