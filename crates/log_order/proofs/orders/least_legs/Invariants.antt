use Rattle.std.proofs.Common.{◌≡◌, List, map, not}
use Rattle.std.specs.Prelude.{filter}
use Rattle.log_entry.specs.Parts.{is_end, is_some_and}
use Rattle.order_rules.specs.Places.{entry_at}
use Rattle.order_rules.specs.Orderly.{Spot}
use Rattle.log_order.specs.Rows.{spot_of}
use Rattle.log_order.specs.Steps.{left}
use Rattle.log_order.proofs.OrderSoFar.{IsTaken}
use Rattle.log_order.proofs.orders.least_legs.Given as goal

abbrev pub invariant-loop-leg : goal.invariant-loop-leg
invariant-loop-leg l = (done : List Spot) × (IsTaken l.l done l.cursor
    × (map spot_of l.legs.items ≡ filter (λ p. not (is_some_and (entry_at l.l p.0 p.1) is_end)) done))

abbrev pub decreases-loop-leg : goal.decreases-loop-leg
decreases-loop-leg l = left l.l.streams l.cursor.places
