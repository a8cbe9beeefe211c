use Rattle.std.proofs.Common.{ℕ, List, ◌++◌}
use Rattle.std.specs.Int.{w8, w32, w64, to_le_bytes}
use Rattle.log_format.specs.Grammar.{entry_format, poll_format}
use Rattle.log_format.proofs.Spelling.{behind}
use Rattle.log_format.proofs.buffer.Buffer.put_poll.Goals as goal

pub returns : goal.returns
unfolding entry_format poll_format
returns c =
    let o = c.args.self.now in
    let start : List ℕ = to_le_bytes w8 3 ++ (to_le_bytes w64 c.args.count ++ to_le_bytes w32 c.args.ord) in
    let time : List ℕ = to_le_bytes w64 c.args.time in
    let bits : List ℕ = to_le_bytes w8 c.args.bits in
    behind o (start ++ time) bits (behind o start time c.put_event.ensures.bytes c.put_u64.ensures.bytes) c.put_u8.ensures.bytes
