use Rattle.std.proofs.Common.{◌≡◌, None}
use Rattle.order_rules.specs.Orderly.{o6, o7}
use Rattle.log_order.specs.declared.series.Series.TheVariants.{Pages}
use Rattle.log_order.specs.Least.{IsNumberedBelow, IsLeastSoFar}
use Rattle.log_order.proofs.pages.judge_pages.Given as goal

abbrev pub invariant-loop-page : goal.invariant-loop-page
invariant-loop-page l = record {
  holds : IsLeastSoFar l.l (o6 l.l) (IsNumberedBelow Pages l.l l.page 0) l.least.holds;
  waits : l.least.holds ≡ None → IsLeastSoFar l.l (o7 l.l) (IsNumberedBelow Pages l.l l.page 0) l.least.waits;
}
