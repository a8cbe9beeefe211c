use Rattle.order_rules.proofs.WorkedLogs.{are_judged}
use Rattle.order_rules.proofs.worked_logs.Goals as goal

pub returns : goal.returns
returns c = are_judged
