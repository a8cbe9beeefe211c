use Rattle.replay_law.proofs.Orders.{items_commute}
use Rattle.replay_law.proofs.items_commute.Goals as goal

pub returns : goal.returns
returns c = items_commute
