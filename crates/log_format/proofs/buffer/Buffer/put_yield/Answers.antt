use Rattle.std.proofs.Common.{ℕ, List, ◌++◌, ap, ◌∙◌}
use Rattle.std.specs.Int.{w8, w16, w32, w64, to_le_bytes}
use Rattle.log_format.specs.Grammar.{entry_format, yield_format}
use Rattle.log_format.proofs.buffer.Buffer.put_yield.Goals as goal

pub returns : goal.returns
unfolding entry_format yield_format
returns c =
    let start : ℕ → List ℕ =
    λ n. to_le_bytes w8 2 ++ (to_le_bytes w64 c.args.count ++ (to_le_bytes w16 c.args.page ++ (to_le_bytes w32 c.args.seq ++ to_le_bytes w8 n))) in
    c.put_privilege.ensures.bytes ∙ ap (λ (n : ℕ). c.args.self.now ++ start n) c.left_number.ensures
