use Rattle.std.proofs.Common.{◌≡◌, ◌≤◌, drop, length}
use lib.Pointwise.{pointwise}
use Rattle.order_rules.specs.Rules.{same_wait}
use Rattle.log_order.specs.Holding.{waits_of}
use Rattle.log_order.proofs.holding.waits_match.Given as goal

-- what is left decides
abbrev pub invariant-loop-wait : goal.invariant-loop-wait
invariant-loop-wait l = record {
  within : l.matched ≤ length l.waits;
  rest : pointwise same_wait l.waits (waits_of l.yields l.hart) ≡ pointwise same_wait (drop l.matched l.waits) (waits_of (drop l.wait-index l.yields) l.hart);
}
