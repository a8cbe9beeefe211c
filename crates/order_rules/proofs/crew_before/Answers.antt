use Rattle.order_rules.proofs.Crew as law
use Rattle.order_rules.proofs.crew_before.Goals as goal

pub returns : goal.returns
returns c = law.crew_before
