use Rattle.std.proofs.Common.{ℕ, List}
use Rattle.std.specs.Int.{w8, w64, to_le_bytes}
use Rattle.log_format.specs.Grammar.{input_format, kind_number, value_number}
use Rattle.std.proofs.Common.{ap, ◌++◌, ◌∙◌}
use Rattle.log_format.proofs.Spelling.{behind}
use Rattle.log_format.proofs.buffer.Buffer.put_input.Goals as goal

pub returns : goal.returns
unfolding input_format
returns c =
    let o = c.args.self.now in
    let kind : List ℕ = to_le_bytes w8 (kind_number c.args.input) in
    let value : List ℕ = to_le_bytes w64 (value_number c.args.input) in
    behind o kind value (c.put_u8.ensures.bytes ∙ ap (λ n. o ++ to_le_bytes w8 n) c.kind_number.ensures)
    (c.put_u64.ensures.bytes ∙ ap (λ n. c.put_u8.new.self ++ to_le_bytes w64 n) c.value_number.ensures)
