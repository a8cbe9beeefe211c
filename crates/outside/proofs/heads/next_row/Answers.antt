use Rattle.std.proofs.Common.{◌≡◌, ◌+◌, ◌-◌, ◌++◌, [], true, false, take, drop, refl, sym, ap, ◌∙◌, arith, get_or}
use Rattle.outside.specs.declared.heads.Head.{Head}
use Rattle.outside.specs.declared.heads.Row.{Row}
use Rattle.outside.specs.Rows.{goes_on, rows}
use Rattle.outside.proofs.HeadRows.{piece_more, row_goes_on, row_ends, none_left}
use Rattle.outside.proofs.heads.next_row.Goals as goal

pub returns-then-not-goes_on : goal.returns-then-not-goes_on
returns-then-not-goes_on c =
    let hs = c.args.heads.now in
    let from = c.args.from in
    let at = c.loop-at.at in
    let zero : Head = record { name = 0; bytes = 0 } in
    let h : Head = get_or hs at zero in
    let row : Row = record { name = c.loop-at.name + h.name; bytes = c.loop-at.bytes + h.bytes } in
    let order = c.loop-at.invariant.order in
    let within = c.loop-at-test.true in
    let piece = piece_more hs from at zero order within in
    let ends : goes_on h ≡ false = sym c.goes_on.ensures.value ∙ c.if-not-goes_on.true in
    record {
      order = omega arith;
      within = omega arith;
      opens = λ more. ap (λ p. rows (p ++ more)) piece
          ∙ row_ends [] (take (at - from) (drop from hs)) c.loop-at.name c.loop-at.bytes h row c.loop-at.invariant.told ends refl refl more;
    }

pub loop-at-preserved : goal.loop-at-preserved
loop-at-preserved c =
    let hs = c.args.heads.now in
    let from = c.args.from in
    let at = c.loop-at.at in
    let zero : Head = record { name = 0; bytes = 0 } in
    let h : Head = get_or hs at zero in
    let order = c.loop-at.invariant.order in
    let within = c.loop-at-test.true in
    let piece = piece_more hs from at zero order within in
    let name_small = c.goes_on.ensures.small.0 in
    let bytes_small = c.goes_on.ensures.small.1 in
    let name_before = c.loop-at.invariant.name in
    let bytes_before = c.loop-at.invariant.bytes in
    let on : goes_on h ≡ true = sym c.goes_on.ensures.value ∙ c.if-not-goes_on.false in
    record {
      told = λ more. ap (λ p. rows (p ++ more)) piece
          ∙ row_goes_on [] (take (at - from) (drop from hs)) c.loop-at.name c.loop-at.bytes (c.loop-at.name + h.name)
          (c.loop-at.bytes + h.bytes) h c.loop-at.invariant.told on refl refl more;
      order = omega arith;
      name = omega arith;
      bytes = omega arith;
    }

pub returns : goal.returns
returns c =
    let end = c.loop-at-test.false in
    let at-end = c.loop-at.auto.at-end in
    none_left c.args.heads.now c.args.from c.loop-at.at c.loop-at.name c.loop-at.bytes c.loop-at.invariant.order (omega arith) c.loop-at.invariant.told
