use Rattle.std.proofs.Common.{◌≡◌, ℕ, ◌<◌, false}
use Rattle.log_order.specs.Rows.{misplaced, AreFilled}
use Rattle.log_order.proofs.rows.fill_stream.Given as goal

-- the entries so far stand in their slots
abbrev pub invariant-loop-i : goal.invariant-loop-i
invariant-loop-i l = record {
  filled : AreFilled l.series l.l l.h l.i l.rows;
  right : (j : ℕ) → j < l.i → misplaced l.series l.l (l.h, j) ≡ false;
}
