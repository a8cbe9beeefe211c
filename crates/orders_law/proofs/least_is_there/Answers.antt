use Rattle.orders_law.proofs.Existence.{least_is_there}
use Rattle.orders_law.proofs.least_is_there.Goals as goal

pub returns : goal.returns
returns g c = least_is_there g.M.Machine.step g.M.Machine.good g.M.Machine.lasts g.M.Machine.commutes
