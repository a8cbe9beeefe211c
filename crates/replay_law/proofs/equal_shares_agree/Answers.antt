use Rattle.replay_law.proofs.Orders.{equal_shares_agree}
use Rattle.replay_law.proofs.equal_shares_agree.Goals as goal

pub returns : goal.returns
returns c = equal_shares_agree
