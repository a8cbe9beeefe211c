use Rattle.order_rules.proofs.Numbers as law
use Rattle.order_rules.proofs.numbers_name.Goals as goal

pub returns : goal.returns
returns c = law.numbers_name
