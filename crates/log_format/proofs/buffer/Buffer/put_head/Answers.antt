use Rattle.std.proofs.Common.{ℕ, List, ◌++◌, length, ap, ◌∙◌}
use Rattle.std.specs.Int.{w8, w16, w32, w64, to_le_bytes}
use Rattle.log_entry.specs.declared.log.Entry.{Entry}
use Rattle.log_format.specs.Grammar.{magic, head_format}
use Rattle.log_format.proofs.Spelling.{behind}
use Rattle.log_format.proofs.buffer.Buffer.put_head.Goals as goal

pub returns : goal.returns
unfolding head_format
returns c =
    let o = c.args.self.now in
    let log = c.args.l.now in
    let head : List (List Entry) → List ℕ =
    λ xs. to_le_bytes w32 magic ++ (to_le_bytes w8 1 ++ (to_le_bytes w8 (length xs) ++ to_le_bytes w16 log.pages)) in
    let limit : List ℕ = to_le_bytes w64 log.limit in
    behind o (head c.items-streams.result.now ++ limit) log.image
    (behind o (head c.items-streams.result.now) limit c.put_board.ensures.bytes c.put_u64.ensures.bytes) c.put.ensures.bytes
    ∙ ap (λ (xs : List (List Entry)). o ++ ((head xs ++ limit) ++ log.image)) c.items-streams.ensures
