use Rattle.std.proofs.Common.{◌≡◌, ◌-◌, ◌*◌, ◌≤◌, List, ◌++◌, take, drop}
use Rattle.outside.specs.declared.heads.Head.{Head}
use Rattle.outside.specs.Rows.{rows, rows_after}
use Rattle.outside.proofs.heads.next_row.Given as goal

abbrev pub invariant-loop-at : goal.invariant-loop-at
invariant-loop-at l = record {
  told : (more : List Head) → rows (take (l.at - l.from) (drop l.from l.heads) ++ more) ≡ rows_after l.name l.bytes more;
  order : l.from ≤ l.at;
  name : l.name ≤ 255 * l.at;
  bytes : l.bytes ≤ 255 * l.at;
}
