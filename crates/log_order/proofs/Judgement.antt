-- Each log has a least order, and so is orderly or has a report.
use Rattle.std.proofs.Common.{◌≡◌, ℕ, zero, suc, ◌+◌, ◌<◌, Bool, true, List, [], ◌∷◌, length, Option, Some, None, refl, sym, ◌∙◌, inl, inr, ◌⊎◌, arith, find}
use Rattle.std.specs.Prelude.{is_some}
use Rattle.std.specs.Option.{option_map_or}
use Rattle.std.proofs.Math.ListN.{length-replicate}
use Rattle.std.proofs.lemmas.Bool.{true≢false}
use Rattle.std.proofs.lemmas.Option.{none-some, slice_get_within}
use Rattle.orders_law.specs.Orders.{below, least, IsLeast}
use Rattle.log_entry.specs.declared.log.Log.{Log}
use Rattle.order_rules.specs.Places.{stream}
use Rattle.order_rules.specs.Cursor.{Cursor, start, take_one, least_left}
use Rattle.order_rules.specs.Orderly.{Spot, spots, Keeps, IsOrderly, IsLeastBreak, LeastOrderLeaves, o1, o2, o3, o4, o5, o6, o7, o8, rules, first_broken}
use Rattle.order_rules.proofs.Numbers.{in_stream}
use Rattle.log_order.specs.Judgement.{EachIsJudged}
use Rattle.log_order.specs.Steps.{left}
use Rattle.log_order.proofs.Refusals.{passes}
use Rattle.log_order.proofs.OneStep.{taking, places_stay, fewer_left}

-- what a step of the least order took
pub record Step (log : Log) (c : Cursor) (h : ℕ) : Type 0 where
  pub next : Cursor
  pub place : ℕ
  pub takes : take_one log h c ≡ Some (next, place)

step_of : (log : Log) (c : Cursor) (h : ℕ) → is_some (take_one log h c) ≡ true → Step log c h
step_of log c h t = by (take_one log h c) refl t
  where
    by : (o : Option (Cursor × ℕ)) → take_one log h c ≡ o → is_some o ≡ true → Step log c h
    by None is t = absurd (true≢false (sym t))
    by (Some m) is t = record { next = m.0; place = m.1; takes = is }

pub record Order (log : Log) (c : Cursor) : Type 0 where
  pub legs : List Spot
  pub end : Cursor
  pub goes : IsLeast (take_one log) (length log.streams) c legs end

order_from : (log : Log) (n : ℕ) (c : Cursor) → left log.streams c.places < n → length c.places ≡ length log.streams → Order log c
order_from log zero c few width = absurd (omega (arith, few))
order_from log (suc n) c few width = by (least (take_one log) (length log.streams) c) refl (λ m l w. order_from log n m l w)
  where
    by : (o : Option ℕ) → least (take_one log) (length log.streams) c ≡ o
        → ((m : Cursor) → left log.streams m.places < n → length m.places ≡ length log.streams → Order log m) → Order log c
    by None is rest = record { legs = []; end = c; goes = (is, refl) }
    by (Some h) is rest =
        let s = step_of log c h (passes (λ g. is_some (take_one log g c)) (below (length log.streams)) h is) in
        let t = taking log h c s.next s.place s.takes in
        let hart = slice_get_within log.streams h (stream log h) (in_stream log h s.place t.entry t.at) in
        let fewer = fewer_left log h c s.next s.place (omega (arith, hart, width)) s.takes in
        let more = rest s.next (omega (arith, fewer, few)) (places_stay log h c s.next s.place s.takes ∙ width) in
        record { legs = (h, s.place) ∷ more.legs; end = more.end; goes = (is, (s.next, s.takes, more.goes)) }

order_of : (log : Log) → Order log (start log)
order_of log = order_from log (suc (left log.streams (start log).places)) (start log) (omega arith) (length-replicate (length log.streams) 0)

kept : (log : Log) (n : ℕ) (rule : Log → Spot → Bool) (others : List (Log → Spot → Bool)) → first_broken log n (rule ∷ others) ≡ None
    → Keeps log rule × (first_broken log (n + 1) others ≡ None)
kept log n rule others none = by (find (rule log) (spots log)) refl none
  where
    by : (o : Option Spot) → find (rule log) (spots log) ≡ o → option_map_or (λ p. Some (n, p)) o (first_broken log (n + 1) others) ≡ None
        → Keeps log rule × (first_broken log (n + 1) others ≡ None)
    by None is none = (is, none)
    by (Some p) is none = absurd (none-some _ (sym none))

pub each_is_judged : EachIsJudged
each_is_judged log = by (first_broken log 1 rules) refl
  where
    orderly : first_broken log 1 rules ≡ None → LeastOrderLeaves log None → IsOrderly log
    orderly none leaves =
        let one = kept log 1 o1 (o2 ∷ o3 ∷ o4 ∷ o5 ∷ o6 ∷ o7 ∷ o8 ∷ []) none in
        let two = kept log 2 o2 (o3 ∷ o4 ∷ o5 ∷ o6 ∷ o7 ∷ o8 ∷ []) one.1 in
        let three = kept log 3 o3 (o4 ∷ o5 ∷ o6 ∷ o7 ∷ o8 ∷ []) two.1 in
        let four = kept log 4 o4 (o5 ∷ o6 ∷ o7 ∷ o8 ∷ []) three.1 in
        let five = kept log 5 o5 (o6 ∷ o7 ∷ o8 ∷ []) four.1 in
        let six = kept log 6 o6 (o7 ∷ o8 ∷ []) five.1 in
        let seven = kept log 7 o7 (o8 ∷ []) six.1 in
        let eight = kept log 8 o8 [] seven.1 in
        record {
          counts_rise_to_the_end = one.0;
          kinds_in_order_at_a_count = two.0;
          polls_where_due = three.0;
          touches_go_on = four.0;
          pages_are_numbered = five.0;
          holders_are_crew = six.0;
          gains_name_their_waits = seven.0;
          ordinals_and_times_rise = eight.0;
          least_order_takes_all = leaves;
        }

    over : first_broken log 1 rules ≡ None → (p : Option Spot) → LeastOrderLeaves log p
        → IsOrderly log ⊎ ((rule : ℕ) × ((hart : ℕ) × ((entry : ℕ) × IsLeastBreak log rule hart entry)))
    over none None leaves = inl (orderly none leaves)
    over none (Some p) leaves = inr (9, (p.0, (p.1, inr (refl, none, leaves))))

    by : (o : Option (ℕ × Spot)) → first_broken log 1 rules ≡ o → IsOrderly log ⊎ ((rule : ℕ) × ((hart : ℕ) × ((entry : ℕ) × IsLeastBreak log rule hart entry)))
    by (Some b) is = inr (b.0, (b.1.0, (b.1.1, inl is)))
    by None is = let order = order_of log in over is (least_left log order.end) (order.legs, (order.end, order.goes, refl))
