use Rattle.order_rules.proofs.Least.{first_is_least}
use Rattle.order_rules.proofs.first_is_least.Goals as goal

pub returns : goal.returns
returns c = first_is_least
