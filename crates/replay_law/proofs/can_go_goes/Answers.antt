use Rattle.replay_law.proofs.Timely.{reached_goes}
use Rattle.replay_law.proofs.can_go_goes.Goals as goal

pub returns : goal.returns
returns c = reached_goes
