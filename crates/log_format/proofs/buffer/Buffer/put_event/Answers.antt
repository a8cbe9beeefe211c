use Rattle.std.proofs.Common.{ℕ, List, ◌++◌}
use Rattle.std.specs.Int.{w8, w32, w64, to_le_bytes}
use Rattle.log_format.proofs.Spelling.{behind}
use Rattle.log_format.proofs.buffer.Buffer.put_event.Goals as goal

pub returns-clause-bytes : goal.returns-clause-bytes
returns-clause-bytes c =
    let o = c.args.self.now in
    let tag : List ℕ = to_le_bytes w8 c.args.tag in
    let count : List ℕ = to_le_bytes w64 c.args.count in
    let ord : List ℕ = to_le_bytes w32 c.args.ord in
    behind o (tag ++ count) ord (behind o tag count c.put_u8.ensures.bytes c.put_u64.ensures.bytes) c.put_u32.ensures.bytes
