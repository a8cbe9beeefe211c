use Rattle.std.proofs.Common.{ℕ, List, ◌++◌}
use Rattle.std.specs.Int.{w8, w16, w32, w64, to_le_bytes}
use Rattle.log_format.proofs.Spelling.{behind}
use Rattle.log_format.proofs.buffer.Buffer.put_privilege.Goals as goal

pub returns-clause-bytes : goal.returns-clause-bytes
returns-clause-bytes c =
    let o = c.args.self.now in
    let tag : List ℕ = to_le_bytes w8 c.args.tag in
    let count : List ℕ = to_le_bytes w64 c.args.count in
    let page : List ℕ = to_le_bytes w16 c.args.page in
    let seq : List ℕ = to_le_bytes w32 c.args.seq in
    let held : List ℕ = to_le_bytes w8 c.args.held in
    behind o (tag ++ count ++ page ++ seq) held
    (behind o (tag ++ count ++ page) seq
    (behind o (tag ++ count) page (behind o tag count c.put_u8.ensures.bytes c.put_u64.ensures.bytes) c.put_u16.ensures.bytes) c.put_u32.ensures.bytes)
    c.put_u8-2.ensures.bytes
