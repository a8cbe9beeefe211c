use Rattle.orders_law.proofs.Shares.{shares_agree}
use Rattle.orders_law.proofs.equal_shares_agree.Goals as goal

pub returns : goal.returns
returns g c = shares_agree g.M.Machine.step g.M.Machine.good g.M.Machine.lasts g.M.Machine.commutes
