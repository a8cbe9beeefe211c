use Rattle.std.proofs.Common.{◌≡◌, ◌-◌, ◌++◌, refl, sym, ap, ◌∙◌, arith}
use Rattle.outside.specs.Rows.{rows, rows_after}
use Rattle.outside.proofs.HeadRows.{closed_append}
use Rattle.outside.proofs.heads.push_row.Goals as goal

pub loop-name-init : goal.loop-name-init
loop-name-init c =
    let hs = c.args.heads.now.items in
    let row = c.args.row in
    let name_zero : row.name - row.name ≡ 0 = omega arith in
    let bytes_zero : row.bytes - row.bytes ≡ 0 = omega arith in
    record {
      told = λ more. closed_append hs c.requires.closed more ∙ ap (λ k. rows hs ++ rows_after k 0 more) (sym name_zero)
          ∙ ap (λ k. rows hs ++ rows_after (row.name - row.name) k more) (sym bytes_zero);
      name = omega arith;
      bytes = omega arith;
      room = c.requires.room;
      capacity = refl;
    }
