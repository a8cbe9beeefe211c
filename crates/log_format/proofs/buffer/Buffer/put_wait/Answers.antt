use Rattle.std.proofs.Common.{ℕ, List}
use Rattle.std.specs.Int.{w8, w64, to_le_bytes}
use Rattle.log_format.specs.Grammar.{wait_format}
use Rattle.log_format.proofs.Spelling.{behind}
use Rattle.log_format.proofs.buffer.Buffer.put_wait.Goals as goal

pub returns-clause-bytes : goal.returns-clause-bytes
unfolding wait_format
returns-clause-bytes c =
    let hart : List ℕ = to_le_bytes w8 c.args.wait.now.hart in
    let count : List ℕ = to_le_bytes w64 c.args.wait.now.count in
    behind c.args.self.now hart count c.put_u8.ensures.bytes c.put_u64.ensures.bytes
