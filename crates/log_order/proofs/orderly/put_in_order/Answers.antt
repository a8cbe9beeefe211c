use Rattle.log_order.proofs.Refusals.{small}
use Rattle.log_order.proofs.orderly.put_in_order.Goals as goal

pub judge-requires : goal.judge-requires
judge-requires c = small c.args.l c.requires
