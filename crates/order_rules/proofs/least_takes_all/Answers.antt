use Rattle.order_rules.proofs.Takings.{least_takes_the_whole}
use Rattle.order_rules.proofs.least_takes_all.Goals as goal

pub returns : goal.returns
returns c = least_takes_the_whole
