use Rattle.std.proofs.Common.{◌≡◌, ◌<◌, false}
use Rattle.order_rules.specs.Orderly.{Spot, o3}
use Rattle.order_rules.specs.Laws.{IsSpot}
use Rattle.log_order.proofs.spots.least_o3.Given as goal

-- no spot of the harts so far breaks it
abbrev pub invariant-loop-h : goal.invariant-loop-h
invariant-loop-h l = (q : Spot) → IsSpot l.l.streams q → q.0 < l.h → o3 l.l q ≡ false
