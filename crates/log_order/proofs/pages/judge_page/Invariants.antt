use Rattle.std.proofs.Common.{◌≡◌, None}
use Rattle.order_rules.specs.Orderly.{o6, o7}
use Rattle.log_order.specs.declared.series.Series.TheVariants.{Pages}
use Rattle.log_order.specs.Holding.{AreHeld, AreDue}
use Rattle.log_order.specs.Least.{IsNumberedBelow, IsLeastSoFar}
use Rattle.log_order.proofs.pages.judge_page.Given as goal

abbrev pub invariant-loop-number : goal.invariant-loop-number
invariant-loop-number l = record {
  held : AreHeld l.l l.page l.number l.holding.holds;
  due : l.least.holds ≡ None → AreDue l.l l.page l.number l.holding.yields;
  holds : IsLeastSoFar l.l (o6 l.l) (IsNumberedBelow Pages l.l l.page l.number) l.least.holds;
  waits : l.least.holds ≡ None → IsLeastSoFar l.l (o7 l.l) (IsNumberedBelow Pages l.l l.page l.number) l.least.waits;
}
