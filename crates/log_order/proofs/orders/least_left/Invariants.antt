use Rattle.std.proofs.Common.{List}
use Rattle.order_rules.specs.Orderly.{Spot}
use Rattle.log_order.specs.Steps.{left}
use Rattle.log_order.proofs.OrderSoFar.{IsTaken}
use Rattle.log_order.proofs.orders.least_left.Given as goal

abbrev pub invariant-loop : goal.invariant-loop
invariant-loop l = (done : List Spot) × IsTaken l.l done l.cursor

abbrev pub decreases-loop : goal.decreases-loop
decreases-loop l = left l.l.streams l.cursor.places
