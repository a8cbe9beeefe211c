use Rattle.std.proofs.Common.{◌≡◌, ℕ, ◌+◌, Some, None, sym, ap, ◌∙◌, subst, arith}
use Rattle.order_rules.specs.Orderly.{Spot, o6, o7}
use Rattle.log_order.specs.declared.series.Series.TheVariants.{Pages}
use Rattle.log_order.specs.Holding.{holds_wrongly, waits_wrongly, AreHeld, AreDue}
use Rattle.log_order.specs.Least.{IsNumberedBelow, IsLeastSoFar}
use Rattle.log_order.specs.Rows.{slot, slot_in}
use Rattle.log_order.proofs.Best.{none_with, one_seen, same_seen}
use Rattle.log_order.proofs.HoldsOfPage.{stands_there, nothing_there, held_past, held_next, due_past, due_next, o6_where, o7_where}
use Rattle.log_order.proofs.RowWalk.{row_is, ended, seen_next, seen_nothing, seen_row}
use Rattle.log_order.proofs.pages.judge_page.Goals as goal
use Rattle.log_order.proofs.pages.judge_page.Goals.{in-None, in-Some+in_ok-least-in-Some}

pub entry_of-requires : goal.entry_of-requires
entry_of-requires c =
    let row = row_is c.args.rows.now c.args.page c.index-rows-page.result c.requires.page c.index-rows-page.is in
    let here : slot c.args.rows.now (c.args.page, c.loop-number.number) ≡ Some c.in-Some.leg =
    ap (λ r. slot_in r c.loop-number.number) row ∙ sym c.at.ensures ∙ c.in-Some.is in
    let o = c.requires.filled.only c.in-Some.leg (c.args.page, c.loop-number.number) here in
    (o.1.0, o.1.1)

pub judge_entry-requires : goal.judge_entry-requires
judge_entry-requires c =
    let row = row_is c.args.rows.now c.args.page c.index-rows-page.result c.requires.page c.index-rows-page.is in
    let here : slot c.args.rows.now (c.args.page, c.loop-number.number) ≡ Some c.in-Some.leg =
    ap (λ r. slot_in r c.loop-number.number) row ∙ sym c.at.ensures ∙ c.in-Some.is in
    let s = stands_there c.args.l.now c.args.rows.now c.requires.filled c.requires.numbered c.args.page c.loop-number.number c.in-Some.leg
    c.entry_of.result.now here c.entry_of.ensures in
    let hart = s.hart in
    let size = c.loop-number.invariant.held.size in
    omega (arith, hart, size)

pub loop-number-preserved : goal.loop-number-preserved
loop-number-preserved c =
    let log = c.args.l.now in
    let page = c.args.page in
    let k = c.loop-number.number in
    let old = c.loop-number.holding in
    let best = c.loop-number.least in
    let invariant = c.loop-number.invariant in
    let row = row_is c.args.rows.now page c.index-rows-page.result c.requires.page c.index-rows-page.is in
    let at : slot c.args.rows.now (page, k) ≡ c.at.result = ap (λ r. slot_in r k) row ∙ sym c.at.ensures in
    elim c.match-at.branch [
      | in-None w ↦
          let here = at ∙ w.in-None.is in
          let none = nothing_there log c.args.rows.now c.requires.filled c.requires.numbered page k here in
          let seen = λ (q : Spot) (s : IsNumberedBelow Pages log page (k + 1) q). seen_nothing Pages log c.args.rows.now c.requires.filled page k here q s in
          let then_held = sym w.skip.ensures ∙ sym w.holding-is in
          let holds = same_seen log (o6 log) (IsNumberedBelow Pages log page k) (IsNumberedBelow Pages log page (k + 1)) best.holds invariant.holds
          (λ q s t. seen q s) in
          let waits = λ (free : best.holds ≡ None). same_seen log (o7 log) (IsNumberedBelow Pages log page k)
          (IsNumberedBelow Pages log page (k + 1)) best.waits (invariant.waits free) (λ q s t. seen q s) in
          record {
            held = subst (λ s. AreHeld log page (k + 1) s.holds) then_held (held_past log page k old.holds invariant.held none);
            due = λ free. subst (λ s. AreDue log page (k + 1) s.yields) then_held (due_past log page k none);
            holds = subst (λ b. IsLeastSoFar log (o6 log) (IsNumberedBelow Pages log page (k + 1)) b.holds) (sym w.least-is) holds;
            waits = λ free. subst (λ b. IsLeastSoFar log (o7 log) (IsNumberedBelow Pages log page (k + 1)) b.waits) (sym w.least-is)
                (waits (ap (λ b. b.holds) (sym w.least-is) ∙ free));
          }
      | in-Some+in_ok-least-in-Some w ↦
          let leg = w.in-Some.leg in
          let e = w.entry_of.result.now in
          let told = w.in_ok-least-in-Some.ensures in
          let here = at ∙ w.in-Some.is in
          let s = stands_there log c.args.rows.now c.requires.filled c.requires.numbered page k leg e here w.entry_of.ensures in
          let seen = seen_next Pages log c.args.rows.now c.requires.filled page k leg here in
          let right = o6_where log leg.hart leg.entry page k e old.holds w.entry_of.ensures s.key s.hart invariant.held in
          let holds = one_seen log (o6 log) (IsNumberedBelow Pages log page k) (IsNumberedBelow Pages log page (k + 1)) best.holds leg e
          (holds_wrongly old.holds leg.hart e) invariant.holds w.entry_of.ensures right seen in
          let first = ap (λ b. b.holds) (sym w.least-is) in
          let before =
          λ (free : c.match-at.least.holds ≡ None). (none_with (holds_wrongly old.holds leg.hart e) best.holds leg (sym told.holds ∙ first ∙ free)).1 in
          let waits = λ (free : best.holds ≡ None). one_seen log (o7 log) (IsNumberedBelow Pages log page k)
          (IsNumberedBelow Pages log page (k + 1)) best.waits leg e (waits_wrongly old.yields leg.hart e) (invariant.waits free) w.entry_of.ensures
          (o7_where log leg.hart leg.entry page k e old.yields w.entry_of.ensures s.key (invariant.due free)) seen in
          record {
            held = subst (λ hs. AreHeld log page (k + 1) hs) (sym told.held ∙ ap (λ z. z.holds) (sym w.holding-is))
                (held_next log page k leg.hart e old.holds invariant.held s.numbered s.hart);
            due = λ free.
                subst (λ ys. AreDue log page (k + 1) ys) (sym (told.yields (first ∙ free)) ∙ ap (λ z. z.yields) (sym w.holding-is))
                (due_next log page k leg.hart e old.yields (invariant.due (before free)) s.numbered);
            holds = subst (λ b. IsLeastSoFar log (o6 log) (IsNumberedBelow Pages log page (k + 1)) b) (sym told.holds ∙ first) holds;
            waits = λ free.
                subst (λ b. IsLeastSoFar log (o7 log) (IsNumberedBelow Pages log page (k + 1)) b)
                (sym (told.waits (first ∙ free)) ∙ ap (λ b. b.waits) (sym w.least-is)) (waits (before free));
          }
    ]

pub returns-clause-holds : goal.returns-clause-holds
returns-clause-holds c =
    let log = c.args.l.now in
    let page = c.args.page in
    let row = row_is c.args.rows.now page c.index-rows-page.result c.requires.page c.index-rows-page.is in
    let end = ended c.args.rows.now page c.loop-number.number c.size-number-end.result c.index-rows-page.result row c.size-number-end.ensures
    c.loop-number.auto.number-end c.loop-number-test.false in
    same_seen log (o6 log) (IsNumberedBelow Pages log page c.loop-number.number)
    (IsNumberedBelow Pages log (page + 1) 0) c.loop-number.least.holds c.loop-number.invariant.holds
    (λ q s t. subst (λ (k : ℕ). IsNumberedBelow Pages log page k q) end (seen_row Pages log c.args.rows.now c.requires.filled page q s))

pub returns-clause-waits : goal.returns-clause-waits
returns-clause-waits c = λ none.
    let log = c.args.l.now in
    let page = c.args.page in
    let row = row_is c.args.rows.now page c.index-rows-page.result c.requires.page c.index-rows-page.is in
    let end = ended c.args.rows.now page c.loop-number.number c.size-number-end.result c.index-rows-page.result row c.size-number-end.ensures
    c.loop-number.auto.number-end c.loop-number-test.false in
    same_seen log (o7 log) (IsNumberedBelow Pages log page c.loop-number.number) (IsNumberedBelow Pages log (page + 1) 0) c.loop-number.least.waits
    (c.loop-number.invariant.waits none)
    (λ q s t. subst (λ (k : ℕ). IsNumberedBelow Pages log page k q) end (seen_row Pages log c.args.rows.now c.requires.filled page q s))
