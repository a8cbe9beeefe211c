use Rattle.std.proofs.Common.{◌≡◌, ◌+◌, ◌-◌, ◌*◌, ◌≤◌, List, ◌++◌, length}
use Rattle.std.specs.Prelude.{vec_capacity}
use Rattle.outside.specs.declared.heads.Head.{Head}
use Rattle.outside.specs.Rows.{rows, rows_after}
use Rattle.outside.proofs.heads.push_row.Given as goal

abbrev pub invariant-loop-name : goal.invariant-loop-name
invariant-loop-name l = record {
  told : (more : List Head) → rows (l.heads.items ++ more) ≡ rows l.fn.heads.items ++ rows_after (l.fn.row.name - l.name) (l.fn.row.bytes - l.bytes) more;
  name : l.name ≤ l.fn.row.name;
  bytes : l.bytes ≤ l.fn.row.bytes;
  room : 255 * (length l.heads.items + 1) + (l.name + l.bytes) ≤ 255 * vec_capacity l.heads;
  capacity : vec_capacity l.heads ≡ vec_capacity l.fn.heads;
}

abbrev pub decreases-loop-name : goal.decreases-loop-name
decreases-loop-name l = l.name + l.bytes
