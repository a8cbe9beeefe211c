use Rattle.order_rules.proofs.Reports.{reports_are_one}
use Rattle.order_rules.proofs.reports_are_one.Goals as goal

pub returns : goal.returns
returns c = reports_are_one
