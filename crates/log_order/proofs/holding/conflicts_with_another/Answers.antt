use Rattle.std.proofs.Common.{ℕ, Bool, Some, length, sym, ◌∙◌, arith}
use Rattle.std.specs.Prelude.{◌==◌, ◌&&◌, not}
use Rattle.log_entry.specs.Parts.{conflict}
use Rattle.log_order.specs.Holding.{hold_of}
use Rattle.log_order.proofs.Lists.{any_number, no_number}
use Rattle.log_order.proofs.holding.conflicts_with_another.Goals as goal

pub returns-then-conflicts_at : goal.returns-then-conflicts_at
returns-then-conflicts_at c =
    let test : ℕ → Bool = λ g. not (g == c.args.hart) && conflict (Some c.args.mode) (hold_of c.args.holds.now g) in
    sym (any_number test (length c.args.holds.now) c.loop-g.g c.loop-g-test.true (sym c.conflicts_at.ensures ∙ c.if-conflicts_at.true))

pub returns : goal.returns
returns c =
    let past = c.loop-g-test.false in
    let test : ℕ → Bool = λ g. not (g == c.args.hart) && conflict (Some c.args.mode) (hold_of c.args.holds.now g) in
    sym (no_number test (length c.args.holds.now) (λ j l. c.loop-g.invariant j (omega (arith, past, l))))
