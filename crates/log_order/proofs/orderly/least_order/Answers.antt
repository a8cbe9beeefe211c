use Rattle.std.proofs.Common.{sym, subst}
use Rattle.std.specs.Bool.{IsTrue}
use Rattle.log_entry.specs.Range.{in_range}
use Rattle.log_order.proofs.Refusals.{small}
use Rattle.log_order.proofs.orderly.least_order.Goals as goal

pub least_legs-requires : goal.least_legs-requires
least_legs-requires c = small c.log.result.now (subst (λ log. IsTrue (in_range log)) (sym c.log.ensures.same) c.log.ensures.range)
