use Rattle.std.proofs.Common.{ℕ, List}
use Rattle.std.specs.Int.{w8, w64, to_le_bytes}
use Rattle.log_format.specs.Grammar.{entry_format, end_format}
use Rattle.log_format.proofs.Spelling.{behind}
use Rattle.log_format.proofs.buffer.Buffer.put_end.Goals as goal

pub returns : goal.returns
unfolding entry_format end_format
returns c =
    let tag : List ℕ = to_le_bytes w8 5 in
    let count : List ℕ = to_le_bytes w64 c.args.count in
    behind c.args.self.now tag count c.put_u8.ensures.bytes c.put_u64.ensures.bytes
