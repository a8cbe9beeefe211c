use Rattle.replay_law.proofs.Progress.{full_order_is_there}
use Rattle.replay_law.proofs.full_order_is_there.Goals as goal

pub returns : goal.returns
returns c = full_order_is_there
