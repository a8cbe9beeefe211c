use Rattle.std.proofs.Common.{◌≡◌, ℕ, ◌<◌, false}
use Rattle.std.specs.Prelude.{is_some}
use Rattle.order_rules.specs.Cursor.{first_left}
use Rattle.log_order.proofs.cursor.Cursor.least_left.Given as goal

-- no hart so far has an entry left
abbrev pub invariant-loop-hart : goal.invariant-loop-hart
invariant-loop-hart l = (j : ℕ) → j < l.hart → is_some (first_left l.l l.self j) ≡ false
