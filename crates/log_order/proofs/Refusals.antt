-- From what each rule's search found to what is told of the log.
use Rattle.std.proofs.Common.{◌≡◌, ℕ, zero, suc, ◌+◌, ◌-◌, ◌<◌, ◌≤◌, ◌^◌, Bool, true, false, cond, List, [], ◌∷◌, take, length, Option, Some, None, refl}
use Rattle.std.proofs.Common.{sym, ap, ◌∙◌, subst, inl, inr, arith, find}
use Rattle.std.specs.Prelude.{◌==◌, ◌&&◌, ◌||◌, nat_le, nat_lt, slice_get, unwrap_or, is_some, slice_index, option_map, Result, Ok, Err, IfOk, IfErr}
use Rattle.std.specs.List.{list_any, list_all}
use Rattle.std.specs.Bool.{IsTrue}
use Rattle.std.specs.Result.{IsErrAnd}
use Rattle.std.specs.Option.{option_map_or}
use Rattle.std.proofs.lemmas.Bool.{and_parts, eqb-false, eq-eqb, ne_eqb, leb-true, ltb-true, ltb-false, lt-leb, cases_lt, true≢false}
use Rattle.std.proofs.lemmas.Option.{none-some, same_Some, slice_get_within}
use Rattle.rv_words.specs.Limits.{most_pages}
use Rattle.log_entry.specs.declared.log.Entry.{Entry}
use Rattle.log_entry.specs.declared.log.Entry.TheVariants.{Gain, Yield, Poll, Touch, End}
use Rattle.log_entry.specs.declared.log.Log.{Log}
use Rattle.log_entry.specs.Parts.{count_of, is_end, is_poll, is_touch, is_some_and, page_number, units_of}
use Rattle.log_entry.specs.Range.{in_range, is_stream, is_entry, is_wait, is_left}
use Rattle.order_rules.specs.Places.{entry_at, stream}
use Rattle.order_rules.specs.Rules.{breaks_o4}
use Rattle.orders_law.specs.Orders.{below}
use Rattle.order_rules.specs.Cursor.{Cursor, first_left}
use Rattle.order_rules.specs.Orderly.{Spot, spots, Keeps, LeastOrderLeaves, o1, o2, o3, o4, o5, o6, o7, o8, rules, first_broken}
use Rattle.order_rules.specs.Laws.{IsSpot}
use Rattle.order_rules.proofs.Least.{first_is_least}
use Rattle.order_rules.proofs.Numbers.{in_stream}
use Rattle.log_order.specs.declared.order_error.OrderError.{OrderError}
use Rattle.log_order.specs.declared.order_error.OrderError.TheVariants as errors
use Rattle.log_order.specs.Bounds.{IsSmall}
use Rattle.log_order.specs.InStream.{falls, falls_at, o2_in}
use Rattle.log_order.specs.Refusal.{Refuses, IsTold, KeepsStreams, KeepsPages}
use Rattle.shared_types.proofs.Lists.{none_at, all_at, get_take}
use Rattle.log_order.proofs.StreamRules.{no_fall}

-- a spot of a small log has numbers that fit
pub spot_fits : (log : Log) → IsSmall log → (test : Spot → Bool) (p : Spot) → find test (spots log) ≡ Some p → (p.0 < 2 ^ 8) × (p.1 < 2 ^ 32)
spot_fits log small test p found =
    let least = first_is_least.found log test p found in
    let hart = slice_get_within log.streams p.0 least.spot.0 least.spot.1 in
    let few = small.harts in
    let within = least.spot.2 in
    let same : length (stream log p.0) ≡ length least.spot.0 = ap (λ o. length (unwrap_or o [])) least.spot.1 in
    let short = small.short p.0 in
    (omega (arith, hart, few), omega (arith, within, same, short))

-- where nothing was found
pub when_kept : (rule : ℕ) (found : Option Spot) (r : Result (Unit {0}) OrderError) (P : Type 0) → IsTold rule found r → (found ≡ None → P) → IfOk r (λ _. P)
when_kept rule found (Ok u) P told kept = kept told
when_kept rule found (Err e) P told kept = tt

-- a touch is followed by a greater count where O1 and O2 are kept
module _ (s : List Entry) (i : ℕ) (p x : Entry) (at : slice_get s i ≡ Some x) (less : i - 1 < i) (there : slice_get s (i - 1) ≡ Some p) where
  touch_first : o2_in s i ≡ false → is_touch p ≡ true → (count_of p ≡ count_of x) → ⊥
  touch_first kept touch same =
      let none : list_any (λ e. (count_of e == count_of x) && (is_touch e || is_end e || is_poll x)) (take i s) ≡ false =
      sym (ap (λ o. is_some_and o (λ z. list_any (λ e. (count_of e == count_of z) && (is_touch e || is_end e || is_poll z)) (take i s))) at) ∙ kept in
      let one = none_at (λ e. (count_of e == count_of x) && (is_touch e || is_end e || is_poll x)) (take i s) (i - 1) p none
      (get_take s i (i - 1) less ∙ there) in
      true≢false (sym (both (count_of p == count_of x) (is_touch p) (is_end p) (is_poll x) (eq (count_of p) (count_of x) same) touch) ∙ one)
    where
      eq : (a b : ℕ) → a ≡ b → (a == b) ≡ true
      eq a b e = eq-eqb a b e

      both : (a b c d : Bool) → a ≡ true → b ≡ true → (a && (b || c || d)) ≡ true
      both true true c d e f = refl
      both true false c d e f = absurd (true≢false (sym f))
      both false b c d e f = absurd (true≢false (sym e))

after_touch : (s : List Entry) (i : ℕ) (p x : Entry) → slice_get s i ≡ Some x → i - 1 < i → slice_get s (i - 1) ≡ Some p → falls s i ≡ false
    → o2_in s i ≡ false → (is_touch p && nat_le (count_of x) (count_of p)) ≡ false
after_touch s i p x at less there rises kept = by (is_touch p) refl
  where
    up : count_of p ≤ count_of x
    up =
        let zero_not : (i == 0) ≡ false = ne_eqb i 0 (λ e. omega (arith, e, less)) in
        let here : falls s i ≡ is_some_and (cond (i == 0) None (slice_get s (i - 1))) (λ q. nat_lt (count_of x) (count_of q)) =
        ap (λ o. is_some_and o (falls_at s i)) at in
        let one : is_some_and (cond (i == 0) None (slice_get s (i - 1))) (λ q. nat_lt (count_of x) (count_of q)) ≡ nat_lt (count_of x) (count_of p) =
        ap (λ b. is_some_and (cond b None (slice_get s (i - 1))) (λ q. nat_lt (count_of x) (count_of q))) zero_not
        ∙ ap (λ o. is_some_and o (λ q. nat_lt (count_of x) (count_of q))) there in
        ltb-false (count_of x) (count_of p) (sym one ∙ sym here ∙ rises)

    by : (b : Bool) → is_touch p ≡ b → (b && nat_le (count_of x) (count_of p)) ≡ false
    by false t = refl
    by true t = elim (cases_lt (count_of p) (count_of x)) [
      | inl below ↦ lt-leb (count_of x) (count_of p) below
      | inr above ↦ absurd (touch_first s i p x at less there kept t (omega (arith, up, above)))
    ]

-- so O4 is never the least broken rule
pub o4_kept : (log : Log) → Keeps log o1 → Keeps log o2 → Keeps log o4
o4_kept log one two = first_is_least.no_first log (o4 log) (λ q spot. at_spot q spot)
  where
    test : Spot → Entry → Bool
    test q e = breaks_o4 log (record { hart = q.0; place = q.1; entry = e })

    at_entry : (q : Spot) → IsSpot log.streams q → (e : Entry) → entry_at log q.0 q.1 ≡ Some e
        → breaks_o4 log (record { hart = q.0; place = q.1; entry = e }) ≡ false
    at_entry q spot e at = by (q.1 == 0) refl (entry_at log q.0 (q.1 - 1)) refl
      where
        got : slice_get log.streams q.0 ≡ Some (stream log q.0)
        got = in_stream log q.0 q.1 e at

        by : (b : Bool) → (q.1 == 0) ≡ b → (o : Option Entry) → entry_at log q.0 (q.1 - 1) ≡ o
            → is_some_and (cond b None (entry_at log q.0 (q.1 - 1))) (λ p. is_touch p && nat_le (count_of e) (count_of p)) ≡ false
        by true first o is = refl
        by false more None is = ap (λ o. is_some_and o (λ p. is_touch p && nat_le (count_of e) (count_of p))) is
        by false more (Some p) is =
            let less : q.1 - 1 < q.1 = (let other = eqb-false q.1 0 more in positive q.1 other) in
            let within = slice_get_within (stream log q.0) q.1 e at in
            ap (λ o. is_some_and o (λ p. is_touch p && nat_le (count_of e) (count_of p))) is
            ∙ after_touch (stream log q.0) q.1 p e at less is (no_fall log one q.0 (stream log q.0) got q.1 within)
            (first_is_least.none log (o2 log) q two spot)
          where
            positive : (n : ℕ) → (n ≡ 0 → ⊥) → n - 1 < n
            positive zero other = absurd (other refl)
            positive (suc n) other = omega arith

    at_spot : (q : Spot) → IsSpot log.streams q → o4 log q ≡ false
    at_spot q spot = by (entry_at log q.0 q.1) refl
      where
        by : (o : Option Entry) → entry_at log q.0 q.1 ≡ o → o4 log q ≡ false
        by None is = ap (λ o. is_some_and o (λ e. breaks_o4 log (record { hart = q.0; place = q.1; entry = e }))) is
        by (Some e) is = ap (λ o. is_some_and o (λ e. breaks_o4 log (record { hart = q.0; place = q.1; entry = e }))) is ∙ at_entry q spot e is

paged : (harts units : ℕ) (e : Entry) (n : ℕ × ℕ) → is_entry harts units e ≡ true → page_number e ≡ Some n → n.0 < units
paged harts units (Gain count page seq mode waits) n t is =
    let p : page ≡ n.0 = ap (λ (z : ℕ × ℕ). z.0) (same_Some _ _ is) in
    let l = ltb-true page units
    (and_parts (nat_lt page units) (nat_le (length waits.items) 7)
    (and_parts (nat_lt page units && nat_le (length waits.items) 7) (list_all (is_wait harts) waits.items) t).0).0 in
    omega (arith, p, l)
paged harts units (Yield count page seq left) n t is =
    let p : page ≡ n.0 = ap (λ (z : ℕ × ℕ). z.0) (same_Some _ _ is) in
    let l = ltb-true page units (and_parts (nat_lt page units) (is_left left) t).0 in
    omega (arith, p, l)
paged harts units (Poll count ord time bits) n t is = absurd (none-some n is)
paged harts units (Touch count ord input) n t is = absurd (none-some n is)
paged harts units (End count) n t is = absurd (none-some n is)

streams_short : (harts units : ℕ) (streams : List (List Entry)) (h : ℕ) → list_all (is_stream harts units) streams ≡ true
    → length (unwrap_or (slice_get streams h) []) < 2 ^ 32
streams_short harts units streams h all = by (slice_get streams h) refl
  where
    by : (o : Option (List Entry)) → slice_get streams h ≡ o → length (unwrap_or o []) < 2 ^ 32
    by None is = omega arith
    by (Some t) is =
        ltb-true (length t) (2 ^ 32)
        (and_parts (nat_lt (length t) (2 ^ 32)) (list_all (is_entry harts units) t) (all_at (is_stream harts units) streams h t all is)).0

-- a log in range is small
pub small : (log : Log) → IsTrue (in_range log) → IsSmall log
small log range =
    let A = nat_le 1 (length log.streams) in
    let B = nat_le (length log.streams) 8 in
    let C = nat_le 1 log.pages in
    let D = nat_le log.pages most_pages in
    let E = nat_le log.limit 1000000000000 in
    let F = list_all (is_stream (length log.streams) (units_of log)) log.streams in
    let e = and_parts (A && B && C && D && E) F range in
    let d = and_parts (A && B && C && D) E e.0 in
    let c = and_parts (A && B && C) D d.0 in
    let b = and_parts (A && B) C c.0 in
    let a = and_parts A B b.0 in
    let limit = leb-true log.limit 1000000000000 d.1 in
    record {
      harts = leb-true (length log.streams) 8 a.1;
      short = λ h. streams_short (length log.streams) (units_of log) log.streams h e.1;
      limit = omega (arith, limit);
      pages = λ h i x n at is.
          let there = all_at (is_stream (length log.streams) (units_of log)) log.streams h (stream log h) e.1 (in_stream log h i x at) in
          let own = all_at (is_entry (length log.streams) (units_of log)) (stream log h) i x
          (and_parts (nat_lt (length (stream log h)) (2 ^ 32)) (list_all (is_entry (length log.streams) (units_of log)) (stream log h)) there).1 at in
          paged (length log.streams) (units_of log) x n own is;
    }

-- where something was found, and no lesser rule is broken
pub refused : (log : Log) (rule : ℕ) (found : Option Spot) (r : Result (Unit {0}) OrderError) → IsTold rule found r
    → ((p : Spot) → found ≡ Some p → first_broken log 1 rules ≡ Some (rule, p)) → IfErr r (Refuses log)
refused log rule found (Ok u) told broken = tt
refused log rule found (Err (errors.Disorderly r hart entry)) told broken =
    inl (broken (hart, entry) told.1 ∙ ap (λ (n : ℕ). Some (n, (hart, entry))) (sym told.0))
refused log rule found (Err errors.NoMemory) told broken = tt

passed : (log : Log) (n : ℕ) (rule : Log → Spot → Bool) (others : List (Log → Spot → Bool)) → Keeps log rule
    → first_broken log n (rule ∷ others) ≡ first_broken log (n + 1) others
passed log n rule others kept = ap (λ o. option_map_or (λ p. Some (n, p)) o (first_broken log (n + 1) others)) kept

broken : (log : Log) (n : ℕ) (rule : Log → Spot → Bool) (others : List (Log → Spot → Bool)) (p : Spot) → find (rule log) (spots log) ≡ Some p
    → first_broken log n (rule ∷ others) ≡ Some (n, p)
broken log n rule others p found = ap (λ o. option_map_or (λ p. Some (n, p)) o (first_broken log (n + 1) others)) found

after_streams : (log : Log) → KeepsStreams log → first_broken log 1 rules ≡ first_broken log 5 (o5 ∷ o6 ∷ o7 ∷ o8 ∷ [])
after_streams log k =
    passed log 1 o1 (o2 ∷ o3 ∷ o4 ∷ o5 ∷ o6 ∷ o7 ∷ o8 ∷ []) k.o1
    ∙ passed log 2 o2 (o3 ∷ o4 ∷ o5 ∷ o6 ∷ o7 ∷ o8 ∷ []) k.o2
    ∙ passed log 3 o3 (o4 ∷ o5 ∷ o6 ∷ o7 ∷ o8 ∷ []) k.o3
    ∙ passed log 4 o4 (o5 ∷ o6 ∷ o7 ∷ o8 ∷ []) k.o4

pub broken_o5 : (log : Log) → KeepsStreams log → (p : Spot) → find (o5 log) (spots log) ≡ Some p → first_broken log 1 rules ≡ Some (5, p)
broken_o5 log k p found = after_streams log k ∙ broken log 5 o5 (o6 ∷ o7 ∷ o8 ∷ []) p found

pub broken_o6 : (log : Log) → KeepsStreams log → Keeps log o5 → (p : Spot) → find (o6 log) (spots log) ≡ Some p → first_broken log 1 rules ≡ Some (6, p)
broken_o6 log k five p found = after_streams log k ∙ passed log 5 o5 (o6 ∷ o7 ∷ o8 ∷ []) five ∙ broken log 6 o6 (o7 ∷ o8 ∷ []) p found

pub broken_o7 : (log : Log) → KeepsStreams log → Keeps log o5 → Keeps log o6 → (p : Spot) → find (o7 log) (spots log) ≡ Some p
    → first_broken log 1 rules ≡ Some (7, p)
broken_o7 log k five six p found =
    after_streams log k ∙ passed log 5 o5 (o6 ∷ o7 ∷ o8 ∷ []) five ∙ passed log 6 o6 (o7 ∷ o8 ∷ []) six ∙ broken log 7 o7 (o8 ∷ []) p found

after_pages : (log : Log) → KeepsStreams log → KeepsPages log → first_broken log 1 rules ≡ first_broken log 8 (o8 ∷ [])
after_pages log k pages =
    after_streams log k ∙ passed log 5 o5 (o6 ∷ o7 ∷ o8 ∷ []) pages.o5 ∙ passed log 6 o6 (o7 ∷ o8 ∷ []) pages.o6 ∙ passed log 7 o7 (o8 ∷ []) pages.o7

pub broken_o8 : (log : Log) → KeepsStreams log → KeepsPages log → (p : Spot) → find (o8 log) (spots log) ≡ Some p → first_broken log 1 rules ≡ Some (8, p)
broken_o8 log k pages p found = after_pages log k pages ∙ broken log 8 o8 [] p found

pub none_broken : (log : Log) → KeepsStreams log → KeepsPages log → Keeps log o8 → first_broken log 1 rules ≡ None
none_broken log k pages eight = after_pages log k pages ∙ passed log 8 o8 [] eight

-- and O9
pub refused_o9 : (log : Log) (found : Option Spot) (r : Result (Unit {0}) OrderError) → IsTold 9 found r → first_broken log 1 rules ≡ None
    → LeastOrderLeaves log found → IfErr r (Refuses log)
refused_o9 log found (Ok u) told none leaves = tt
refused_o9 log found (Err (errors.Disorderly r hart entry)) told none leaves = inr (told.0, none, subst (λ o. LeastOrderLeaves log o) told.1 leaves)
refused_o9 log found (Err errors.NoMemory) told none leaves = tt

pub passes : (test : ℕ → Bool) (xs : List ℕ) (x : ℕ) → find test xs ≡ Some x → test x ≡ true
passes test [] x is = absurd (none-some x is)
passes test (y ∷ xs) x is = by (test y) refl is (passes test xs x)
  where
    by : (b : Bool) → test y ≡ b → cond b (Some y) (find test xs) ≡ Some x → (find test xs ≡ Some x → test x ≡ true) → test x ≡ true
    by true t is rest = ap test (sym (same_Some y x is)) ∙ t
    by false t is rest = rest is

-- what is left of a small log has numbers that fit
pub left_fits : (log : Log) → IsSmall log → (found : Option Spot) (p : Spot) → LeastOrderLeaves log found → found ≡ Some p → (p.0 < 2 ^ 8) × (p.1 < 2 ^ 32)
left_fits log small found p leaves is = by (find (λ h. is_some (first_left log leaves.1.0 h)) (below (length log.streams))) refl (leaves.1.2 ∙ is)
  where
    c : Cursor
    c = leaves.1.0

    fits : (h : ℕ) (o : Option Entry) → first_left log c h ≡ o → is_some o ≡ true → (h, slice_index c.places h) ≡ p → (p.0 < 2 ^ 8) × (p.1 < 2 ^ 32)
    fits h None at some same = absurd (true≢false (sym some))
    fits h (Some e) at some same =
        let hart : h ≡ p.0 = ap (λ (z : Spot). z.0) same in
        let place : slice_index c.places h ≡ p.1 = ap (λ (z : Spot). z.1) same in
        let l = slice_get_within log.streams h (stream log h) (in_stream log h (slice_index c.places h) e at) in
        let m = slice_get_within (stream log h) (slice_index c.places h) e at in
        let few = small.harts in
        let short = small.short h in
        (omega (arith, hart, l, few), omega (arith, place, m, short))

    by : (o : Option ℕ) → find (λ h. is_some (first_left log c h)) (below (length log.streams)) ≡ o
        → option_map (λ h. (h, slice_index c.places h)) o ≡ Some p → (p.0 < 2 ^ 8) × (p.1 < 2 ^ 32)
    by None found is = absurd (none-some p is)
    by (Some h) found is = fits h (first_left log c h) refl (passes (λ h. is_some (first_left log c h)) (below (length log.streams)) h found) (same_Some _ _ is)

-- a `?` passes a refusal on
pub carried : (log : Log) (r : Result (Unit {0}) OrderError) (e : OrderError) → IsErrAnd r (λ x. x ≡ e) → Refuses log e → IfErr r (Refuses log)
carried log (Ok u) e same refuses = tt
carried log (Err x) e same refuses = subst (Refuses log) (sym same) refuses

pub refused_with : (log : Log) (rule : ℕ) (found : Option Spot) (e : OrderError) → IsTold rule found (Err e)
    → ((p : Spot) → found ≡ Some p → first_broken log 1 rules ≡ Some (rule, p)) → Refuses log e
refused_with log rule found e told broken = refused log rule found (Err e) told broken
