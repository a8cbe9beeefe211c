use Rattle.std.proofs.Common.{◌≡◌, ℕ, ◌<◌, Some, false}
use Rattle.std.specs.Prelude.{◌==◌, ◌&&◌, not}
use Rattle.log_entry.specs.Parts.{conflict}
use Rattle.log_order.specs.Holding.{hold_of}
use Rattle.log_order.proofs.holding.conflicts_with_another.Given as goal

-- no hart so far conflicts
abbrev pub invariant-loop-g : goal.invariant-loop-g
invariant-loop-g l = (j : ℕ) → j < l.g → (not (j == l.hart) && conflict (Some l.mode) (hold_of l.holds j)) ≡ false
