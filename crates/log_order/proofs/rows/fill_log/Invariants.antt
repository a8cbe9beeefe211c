use Rattle.std.proofs.Common.{◌≡◌, ◌<◌, false}
use Rattle.order_rules.specs.Orderly.{Spot}
use Rattle.order_rules.specs.Laws.{IsSpot}
use Rattle.log_order.specs.Rows.{misplaced, AreFilled}
use Rattle.log_order.proofs.rows.fill_log.Given as goal

-- the entries of the harts so far stand in their slots
abbrev pub invariant-loop-h : goal.invariant-loop-h
invariant-loop-h l = record {
  filled : AreFilled l.series l.l l.h 0 l.rows;
  right : (q : Spot) → IsSpot l.l.streams q → q.0 < l.h → misplaced l.series l.l q ≡ false;
}
