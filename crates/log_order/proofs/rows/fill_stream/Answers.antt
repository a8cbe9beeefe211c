use Rattle.std.proofs.Common.{◌≡◌, ℕ, ◌+◌, ◌<◌, not, [], None, length, refl, sym, ap, ◌∙◌, subst, arith}
use Rattle.std.specs.Prelude.{unwrap_or}
use Rattle.std.proofs.lemmas.Option.{slice_get_read}
use Rattle.order_rules.specs.Places.{stream}
use Rattle.log_order.specs.Rows.{misplaced, AreFilled}
use Rattle.log_order.proofs.Lift.{reading}
use Rattle.log_order.proofs.LoopSearch.{one_more}
use Rattle.log_order.proofs.StreamRules.{widen}
use Rattle.log_order.proofs.Slots.{at_spot, rows_below, misplaced_where, one_filled, stream_filled, misplaced_past}
use Rattle.log_order.proofs.rows.fill_stream.Goals as goal

pub returns-then-not-put_entry-clause-first : goal.returns-then-not-put_entry-clause-first
returns-then-not-put_entry-clause-first c =
    let log = c.args.l.now in
    let h = c.args.h in
    let i = c.loop-i.i in
    let t = c.items-s.result.now in
    let got = reading log.streams c.items.result.now h c.index-items-h.result t c.items.ensures
    (subst (λ xs. h < length xs) (sym c.items.ensures) c.requires.hart) c.index-items-h.is c.items-s.ensures in
    let at = at_spot log h i t c.index-s-i.result got (slice_get_read t (length t) i c.index-s-i.result refl c.loop-i-test.true c.index-s-i.is) in
    let below = rows_below c.args.series log h i c.loop-i.rows c.requires.small c.loop-i.invariant.filled in
    let l = c.loop-i-test.true in
    let size : length (stream log h) ≡ length t = ap (λ o. length (unwrap_or o [])) got in (
      omega (arith, l, size),
      misplaced_where c.args.series log h i c.loop-i.rows c.index-s-i.result c.loop-i.invariant.filled below at
          ∙ ap not (sym c.put_entry.ensures.answer ∙ c.if-not-put_entry.true),
      c.loop-i.invariant.right,
    )

pub loop-i-preserved : goal.loop-i-preserved
loop-i-preserved c =
    let log = c.args.l.now in
    let h = c.args.h in
    let i = c.loop-i.i in
    let t = c.items-s.result.now in
    let e = c.index-s-i.result in
    let got = reading log.streams c.items.result.now h c.index-items-h.result t c.items.ensures
    (subst (λ xs. h < length xs) (sym c.items.ensures) c.requires.hart) c.index-items-h.is c.items-s.ensures in
    let at = at_spot log h i t e got (slice_get_read t (length t) i e refl c.loop-i-test.true c.index-s-i.is) in
    let below = rows_below c.args.series log h i c.loop-i.rows c.requires.small c.loop-i.invariant.filled in
    let put = c.if-not-put_entry.false in
    let filled = one_filled c.args.series log h i c.loop-i.rows e c.loop-i.invariant.filled below at (sym c.put_entry.ensures.answer ∙ put) in
    record {
      filled = subst (λ rows. AreFilled c.args.series log h (i + 1) rows) (sym (c.put_entry.ensures.rows put)) filled;
      right = one_more (λ j. misplaced c.args.series log (h, j)) i c.loop-i.invariant.right
          (misplaced_where c.args.series log h i c.loop-i.rows e c.loop-i.invariant.filled below at
          ∙ ap not (sym c.put_entry.ensures.answer ∙ c.if-not-put_entry.false));
    }

pub returns-clause-first : goal.returns-clause-first
returns-clause-first c =
    let log = c.args.l.now in
    let h = c.args.h in
    let t = c.items-s.result.now in
    let got = reading log.streams c.items.result.now h c.index-items-h.result t c.items.ensures
    (subst (λ xs. h < length xs) (sym c.items.ensures) c.requires.hart) c.index-items-h.is c.items-s.ensures in
    let past = c.loop-i-test.false in
    let size : length (stream log h) ≡ length t = ap (λ o. length (unwrap_or o [])) got in
    widen (λ j. misplaced c.args.series log (h, j)) (length (stream log h)) (misplaced_past c.args.series log h) None
    (λ j l. c.loop-i.invariant.right j (omega (arith, past, size, l)))

pub returns-clause-filled : goal.returns-clause-filled
returns-clause-filled c =
    let log = c.args.l.now in
    let h = c.args.h in
    let t = c.items-s.result.now in
    let got = reading log.streams c.items.result.now h c.index-items-h.result t c.items.ensures
    (subst (λ xs. h < length xs) (sym c.items.ensures) c.requires.hart) c.index-items-h.is c.items-s.ensures in
    let past = c.loop-i-test.false in
    let within = c.loop-i.auto.i-end in
    let end : c.loop-i.i ≡ length t = omega (arith, past, within) in
    stream_filled c.args.series log h t c.loop-i.rows got (subst (λ (i : ℕ). AreFilled c.args.series log h i c.loop-i.rows) end c.loop-i.invariant.filled)
