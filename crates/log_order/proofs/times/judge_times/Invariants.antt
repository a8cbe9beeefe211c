use Rattle.std.proofs.Common.{◌≡◌}
use Rattle.order_rules.specs.Orderly.{o8}
use Rattle.order_rules.specs.Rules.{time_before}
use Rattle.log_order.specs.declared.series.Series.TheVariants.{Ordinals}
use Rattle.log_order.specs.Least.{IsNumberedBelow, IsLeastSoFar}
use Rattle.log_order.proofs.times.judge_times.Given as goal

abbrev pub invariant-loop-number : goal.invariant-loop-number
invariant-loop-number l = record {
  last : l.last ≡ time_before l.l l.number;
  least : IsLeastSoFar l.l (o8 l.l) (IsNumberedBelow Ordinals l.l 0 l.number) l.least;
}
