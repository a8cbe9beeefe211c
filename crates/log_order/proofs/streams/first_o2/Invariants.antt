use Rattle.std.proofs.Common.{◌≡◌, ℕ, ◌<◌, false}
use Rattle.log_order.specs.InStream.{o2_in}
use Rattle.log_order.proofs.streams.first_o2.Given as goal

-- no place so far breaks it
abbrev pub invariant-loop-i : goal.invariant-loop-i
invariant-loop-i l = (j : ℕ) → j < l.i → o2_in l.s j ≡ false
