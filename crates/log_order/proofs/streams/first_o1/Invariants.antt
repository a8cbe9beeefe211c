use Rattle.std.proofs.Common.{◌≡◌, ℕ, ◌<◌, false}
use Rattle.log_order.specs.InStream.{o1_in}
use Rattle.log_order.proofs.streams.first_o1.Given as goal

-- no place so far breaks it
abbrev pub invariant-loop-i : goal.invariant-loop-i
invariant-loop-i l = (j : ℕ) → j < l.i → o1_in l.limit l.s j ≡ false
