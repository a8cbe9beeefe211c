use Rattle.log_order.proofs.Refusals.{left_fits}
use Rattle.log_order.proofs.judging.judge_least_order.Goals as goal

pub tell-requires : goal.tell-requires
tell-requires c = λ p is. left_fits c.args.l.now c.requires.small c.in_ok-least_left.field-0 p c.in_ok-least_left.ensures is
