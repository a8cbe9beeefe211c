use Rattle.log_order.proofs.Judgement.{each_is_judged}
use Rattle.log_order.proofs.each_log_is_judged.Goals as goal

pub returns : goal.returns
returns c = each_is_judged
