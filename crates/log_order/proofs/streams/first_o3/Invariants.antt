use Rattle.std.proofs.Common.{◌≡◌, ℕ, ◌<◌, false}
use Rattle.order_rules.specs.Rules.{end_count}
use Rattle.log_order.specs.InStream.{o3_in}
use Rattle.log_order.proofs.Due.{IsDue}
use Rattle.log_order.proofs.streams.first_o3.Given as goal

-- no place so far breaks it
abbrev pub invariant-loop-i : goal.invariant-loop-i
invariant-loop-i l = IsDue l.s l.i l.due × (l.end ≡ end_count l.s) × ((j : ℕ) → j < l.i → o3_in l.limit l.s j ≡ false)
