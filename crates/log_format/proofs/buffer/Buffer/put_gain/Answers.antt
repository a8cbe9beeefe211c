use Rattle.std.proofs.Common.{ℕ, List, ◌++◌, ap, ◌∙◌}
use Rattle.std.specs.Int.{w8, w16, w32, w64, to_le_bytes}
use Rattle.log_format.specs.Grammar.{mode_number, waits_format, entry_format, gain_format}
use Rattle.log_format.proofs.Spelling.{behind}
use Rattle.log_format.proofs.buffer.Buffer.put_gain.Goals as goal

pub returns : goal.returns
unfolding entry_format gain_format
returns c =
    let o = c.args.self.now in
    let start : ℕ → List ℕ =
    λ n. to_le_bytes w8 1 ++ (to_le_bytes w64 c.args.count ++ (to_le_bytes w16 c.args.page ++ (to_le_bytes w32 c.args.seq ++ to_le_bytes w8 n))) in
    let waits : List ℕ = (waits_format 0).spell c.args.waits.now in
    behind o (start (mode_number c.args.mode)) waits (c.put_privilege.ensures.bytes ∙ ap (λ (n : ℕ). o ++ start n) c.mode_number.ensures) c.put_waits.ensures
