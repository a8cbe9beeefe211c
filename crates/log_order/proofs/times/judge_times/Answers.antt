use Rattle.std.proofs.Common.{◌≡◌, ℕ, suc, ◌+◌, ◌<◌, cond, Some, None, length, refl, sym, ap, ◌∙◌, subst, inl, arith, add-one}
use Rattle.std.specs.Prelude.{nat_lt, option_map, option_and_then, unwrap_or}
use Rattle.log_entry.specs.Parts.{is_some_and, time_of}
use Rattle.order_rules.specs.Rules.{time_before}
use Rattle.order_rules.specs.Orderly.{o8}
use Rattle.log_order.specs.declared.series.Series.TheVariants.{Ordinals}
use Rattle.log_order.specs.Least.{lesser, IsNumberedBelow, IsLeastSoFar}
use Rattle.log_order.specs.Rows.{slot, slot_in}
use Rattle.log_order.proofs.Best.{nothing_seen, one_seen, same_seen, all_seen}
use Rattle.log_order.proofs.RowWalk.{row_is, ended, none_at_first, seen_next, seen_nothing, seen_row}
use Rattle.log_order.proofs.TimesAlong.{ordinal_there, no_ordinal, o8_where_right, of_an_ordinal}
use Rattle.log_order.proofs.times.judge_times.Goals as goal
use Rattle.log_order.proofs.times.judge_times.Goals.{in-Some, in_default}

pub entry_of-requires : goal.entry_of-requires
entry_of-requires c =
    let wide : 0 < length c.args.rows.now = (let w = c.requires.filled.width in omega (arith, w)) in
    let row = row_is c.args.rows.now 0 c.index-rows-0.result wide c.index-rows-0.is in
    let here : slot c.args.rows.now (0, c.loop-number.number) ≡ Some c.in-Some.leg =
    ap (λ r. slot_in r c.loop-number.number) row ∙ sym c.at.ensures ∙ c.in-Some.is in
    let o = c.requires.filled.only c.in-Some.leg (0, c.loop-number.number) here in
    (o.1.0, o.1.1)

pub loop-number-init : goal.loop-number-init
loop-number-init c =
    let log = c.args.l.now in
    record { last = refl; least = nothing_seen log (o8 log) (IsNumberedBelow Ordinals log 0 0) (λ q s. none_at_first Ordinals log q s) }

pub loop-number-preserved : goal.loop-number-preserved
loop-number-preserved c =
    let log = c.args.l.now in
    let k = c.loop-number.number in
    let old = c.loop-number.last in
    let invariant = c.loop-number.invariant in
    let wide : 0 < length c.args.rows.now = (let w = c.requires.filled.width in omega (arith, w)) in
    let row = row_is c.args.rows.now 0 c.index-rows-0.result wide c.index-rows-0.is in
    let at : slot c.args.rows.now (0, k) ≡ c.at.result = ap (λ r. slot_in r k) row ∙ sym c.at.ensures in
    elim c.match-at.branch [
      | in-Some w ↦
          let leg = w.in-Some.leg in
          let e = w.entry_of.result.now in
          let here = at ∙ w.in-Some.is in
          let o = ordinal_there log c.args.rows.now c.requires.filled k leg e here w.entry_of.ensures in
          let next : time_before log (suc k) ≡ unwrap_or (time_of e) old =
          ap (λ o. unwrap_or (option_and_then time_of o) (time_before log k)) o.1 ∙ ap (λ (t : ℕ). unwrap_or (time_of e) t) (sym invariant.last) in
          let least = one_seen log (o8 log) (IsNumberedBelow Ordinals log 0 k) (IsNumberedBelow Ordinals log 0 (k + 1)) c.loop-number.least leg e
          (is_some_and (time_of e) (λ time. nat_lt time old)) invariant.least w.entry_of.ensures
          (o8_where_right log leg.hart leg.entry k old e c.requires.numbered w.entry_of.ensures o.0 invariant.last)
          (seen_next Ordinals log c.args.rows.now c.requires.filled 0 k leg here) in
          let falls : w.falls.result ≡ is_some_and (time_of e) (λ time. nat_lt time old) =
          w.falls.ensures ∙ ap (λ o. is_some_and o (λ time. nat_lt time old)) w.time_of-time.ensures in
          let best = ap (λ b. cond b (lesser c.loop-number.least leg) c.loop-number.least) (sym falls) ∙ sym w.lesser-least.ensures ∙ sym w.least-is in
          record {
            last = w.last-is ∙ w.unwrap_or-last.ensures ∙ ap (λ o. unwrap_or o old) w.time_of-time.ensures ∙ sym next
                ∙ ap (λ (n : ℕ). time_before log n) (sym (add-one k));
            least = subst (λ b. IsLeastSoFar log (o8 log) (IsNumberedBelow Ordinals log 0 (k + 1)) b) best least;
          }
      | in_default w ↦
          let here : slot c.args.rows.now (0, k) ≡ None = at ∙ w.in_default.is in
          let next : time_before log (suc k) ≡ time_before log k =
          ap (λ o. unwrap_or (option_and_then time_of o) (time_before log k)) (no_ordinal log c.args.rows.now c.requires.filled k here) in
          let least = same_seen log (o8 log) (IsNumberedBelow Ordinals log 0 k) (IsNumberedBelow Ordinals log 0 (k + 1)) c.loop-number.least invariant.least
          (λ q s t. seen_nothing Ordinals log c.args.rows.now c.requires.filled 0 k here q s) in
          record {
            last = w.last-is ∙ invariant.last ∙ sym next ∙ ap (λ (n : ℕ). time_before log n) (sym (add-one k));
            least = subst (λ b. IsLeastSoFar log (o8 log) (IsNumberedBelow Ordinals log 0 (k + 1)) b) (sym w.least-is) least;
          }
    ]

pub returns : goal.returns
returns c =
    let log = c.args.l.now in
    let wide : 0 < length c.args.rows.now = (let w = c.requires.filled.width in omega (arith, w)) in
    let row = row_is c.args.rows.now 0 c.index-rows-0.result wide c.index-rows-0.is in
    let end = ended c.args.rows.now 0 c.loop-number.number c.size-number-end.result c.index-rows-0.result row c.size-number-end.ensures
    c.loop-number.auto.number-end c.loop-number-test.false in
    all_seen log (o8 log) (IsNumberedBelow Ordinals log 0 c.loop-number.number) c.loop-number.least c.loop-number.invariant.least (λ q spot t.
    let e = of_an_ordinal log q c.requires.numbered t in
    subst (λ (k : ℕ). IsNumberedBelow Ordinals log 0 k q) end (seen_row Ordinals log c.args.rows.now c.requires.filled 0 q
    (e.0, ((0, e.1.0), e.1.1, ap (option_map {U = ℕ × ℕ} (λ k. (0, k))) e.1.2, inl (omega arith)))))
