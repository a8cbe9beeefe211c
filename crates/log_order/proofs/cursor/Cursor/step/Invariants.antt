use Rattle.std.proofs.Common.{◌≡◌, ℕ, ◌<◌, false}
use Rattle.std.specs.Prelude.{is_some}
use Rattle.order_rules.specs.Cursor.{take_one}
use Rattle.log_order.proofs.cursor.Cursor.step.Given as goal

-- no hart so far can
abbrev pub invariant-loop-hart : goal.invariant-loop-hart
invariant-loop-hart l = record {
  same : l.self ≡ l.initial.self;
  none : (j : ℕ) → j < l.hart → is_some (take_one l.l j l.self) ≡ false;
}
