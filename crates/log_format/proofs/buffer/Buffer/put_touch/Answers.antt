use Rattle.std.proofs.Common.{ℕ, List, ◌++◌}
use Rattle.std.specs.Int.{w8, w32, w64, to_le_bytes}
use Rattle.log_format.specs.Grammar.{input_format, entry_format, touch_format}
use Rattle.log_format.proofs.Spelling.{behind}
use Rattle.log_format.proofs.buffer.Buffer.put_touch.Goals as goal

pub returns : goal.returns
unfolding entry_format touch_format
returns c =
    let o = c.args.self.now in
    let start : List ℕ = to_le_bytes w8 4 ++ (to_le_bytes w64 c.args.count ++ to_le_bytes w32 c.args.ord) in
    let input : List ℕ = input_format.spell c.args.input in
    behind o start input c.put_event.ensures.bytes c.put_input.ensures
