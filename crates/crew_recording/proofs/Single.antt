-- One stream of a recording, and the rules that look at one stream alone.
use Rattle.std.proofs.Common.{◌≡◌, ℕ, zero, suc, ◌+◌, ◌-◌, ◌*◌, ◌/◌, ◌%◌, ◌<◌, ◌≤◌, ◌==◌, ◌&&◌, ◌||◌, not, nat_lt, nat_le, Bool, true, false, List, [], ◌∷◌}
use Rattle.std.proofs.Common.{◌++◌, length, take, Some, None, slice_get, ◌⊎◌, refl, sym, ap, ap₂, ◌∙◌, subst, inl, inr, ⊎_elim, arith, if◌then◌else◌}
use Rattle.std.proofs.Common.{true≢false}
use Rattle.std.specs.Option.{option_map_or}
use Rattle.std.proofs.lemmas.Option.{none-some}
use Rattle.std.proofs.lemmas.Bool.{eq-eqb, ne_eqb, and_right, false_from_ne_true, le-ltb, lt-leb, or_from}
use Rattle.std.proofs.lemmas.Bool.Decides.{eqb_tells, leb_tells}
use Rattle.std.proofs.lemmas.List.{length_push}
use Rattle.orders_law.proofs.Below.{below_at}
use Rattle.shared_types.proofs.Lists.{at_end, at_one_more, get_take, last_passes, map_at, none_there, one_passes}
use Rattle.orders_law.specs.Orders.{below}
use Rattle.log_entry.specs.declared.log.Entry.{Entry}
use Rattle.log_entry.specs.declared.log.Entry.TheVariants as entries
use Rattle.log_entry.specs.declared.log.Log.{Log}
use Rattle.log_entry.specs.Parts.{count_of, is_end, is_poll, is_touch}
use Rattle.order_rules.specs.Places.{Placed, stream, entry_at, previous}
use Rattle.order_rules.specs.Rules.{breaks_o1, breaks_o2, breaks_o3, breaks_o4, last_of, end_count, may_poll, polls_due, has_poll, is_first_above}
use Rattle.crew_recording.proofs.Prefix.{EachAfter, each_push}
use Rattle.crew_recording.proofs.Tests.{some_and_false}
use Rattle.crew_recording.specs.Allowed.{IsPolled}

-- an entry behind those before it in its stream
pub record StreamFits (limit : ℕ) (before : List Entry) (e : Entry) : Type 0 where
  pub rises : (j : ℕ) (b : Entry) → slice_get before j ≡ Some b → count_of b ≤ count_of e
  pub kinds : (j : ℕ) (b : Entry) → slice_get before j ≡ Some b → count_of b ≡ count_of e → (is_touch b ≡ false) × (is_end b ≡ false) × (is_poll e ≡ false)
  pub polls : is_poll e ≡ true → (count_of e % 4096 ≡ 0) × (count_of e < limit)
  pub due : (k : ℕ) → k * 4096 < count_of e → has_poll before (k * 4096) ≡ true

-- a stream so far, whose hart stands at this count
pub record IsTidyStream (limit : ℕ) (s : List Entry) (count : ℕ) : Type 0 where
  pub each : EachAfter (StreamFits limit) s
  pub ends : (i : ℕ) (e : Entry) → slice_get s i ≡ Some e → is_end e ≡ false
  pub below : (i : ℕ) (e : Entry) → slice_get s i ≡ Some e → count_of e ≤ count
  pub touched : (i : ℕ) (e : Entry) → slice_get s i ≡ Some e → count_of e ≡ count → is_touch e ≡ false
  pub due : (k : ℕ) → k * 4096 < count → has_poll s (k * 4096) ≡ true
  pub polled : (i : ℕ) (e : Entry) → slice_get s i ≡ Some e → count_of e ≡ count → count < limit → IsPolled s count
  pub bounded : count ≤ limit

pub no_stream_yet : (limit : ℕ) → IsTidyStream limit [] 0
no_stream_yet limit = record {
  each = λ i e at. absurd (none-some _ at);
  ends = λ i e at. absurd (none-some _ at);
  below = λ i e at. absurd (none-some _ at);
  touched = λ i e at. absurd (none-some _ at);
  due = λ k l. absurd (omega (arith, l));
  polled = λ i e at. absurd (none-some _ at);
  bounded = omega arith;
}

-- the Polls due below the next count are there, once the one at this count is
due_next : (s : List Entry) (count : ℕ) → ((k : ℕ) → k * 4096 < count → has_poll s (k * 4096) ≡ true) → IsPolled s count → (k : ℕ) → k * 4096 < count + 1
    → has_poll s (k * 4096) ≡ true
due_next s count due polled k l = elim (eqb_tells (k * 4096) count) [
  | inl (t, same) ↦ subst (λ n. has_poll s n ≡ true) (sym same) (polled (subst (λ n. n % 4096 ≡ 0) same (omega arith)))
  | inr (f, other) ↦ due k (omega (arith, l, other))
]

-- the hart moved
pub moved_on : (limit : ℕ) (s : List Entry) (count later : ℕ) → IsTidyStream limit s count → later ≡ count + 1 → count < limit → IsPolled s count
    → IsTidyStream limit s later
moved_on limit s count later tidy up less polled = record {
  each = tidy.each;
  ends = tidy.ends;
  below = λ i e at. let l = tidy.below i e at in omega (arith, l, up);
  touched = λ i e at same. absurd (let l = tidy.below i e at in omega (arith, l, up, same));
  due = λ k l. due_next s count tidy.due polled k (omega (arith, l, up));
  polled = λ i e at same. absurd (let l = tidy.below i e at in omega (arith, l, up, same));
  bounded = omega (arith, up, less);
}

-- an entry was made at the count, which is then this
pub entered_on : (limit : ℕ) (s : List Entry) (e : Entry) (count later : ℕ) → IsTidyStream limit s count → count_of e ≡ count → is_end e ≡ false
    → (is_poll e ≡ true → (count % 4096 ≡ 0) × (count < limit) × (has_poll s count ≡ false))
    → (is_poll e ≡ false → count < limit → IsPolled s count)
    → ((is_touch e ≡ false) × (later ≡ count)) ⊎ ((is_poll e ≡ false) × (count < limit) × (later ≡ count + 1)) → IsTidyStream limit (s ++ e ∷ []) later
entered_on limit s e count later tidy here no_end poll polled how = record {
  each = each_push (StreamFits limit) s e tidy.each fits;
  ends = λ i x at. ⊎_elim (λ l. tidy.ends i x l.1) (λ q. subst (λ z. is_end z ≡ false) q.1 no_end) (at_one_more s e x i at);
  below = λ i x at. ⊎_elim (λ l. let b = tidy.below i x l.1 in omega (arith, b, up)) (λ q. subst (λ z. count_of z ≤ later) q.1 (omega (arith, here, up)))
      (at_one_more s e x i at);
  touched = λ i x at same. ⊎_elim
      (λ l. let b = tidy.below i x l.1 in tidy.touched i x l.1 (omega (arith, b, up, same)))
      (λ q. let c = ap count_of q.1 in untouched how (omega (arith, c, here, same)) x q.1)
      (at_one_more s e x i at);
  due = λ k l. all_due how k l;
  polled = λ i x at same less. all_polled how (let l = not_above i x at in omega (arith, l, same)) less;
  bounded = bound how;
}
  where
    up : count ≤ later
    up = by how where
      by : ((is_touch e ≡ false) × (later ≡ count)) ⊎ ((is_poll e ≡ false) × (count < limit) × (later ≡ count + 1)) → count ≤ later
      by (inl a) = let z = a.1 in omega (arith, z)
      by (inr a) = let z = a.2 in omega (arith, z)

    -- a Poll is the first entry at its count
    fits : StreamFits limit s e
    fits = record {
      rises = λ j b at. let l = tidy.below j b at in omega (arith, l, here);
      kinds = λ j b at same. (
        tidy.touched j b at (same ∙ here),
        tidy.ends j b at,
        false_from_ne_true (is_poll e) (λ t. let p = poll t in absurd (true≢false (sym (tidy.polled j b at (same ∙ here) p.1 p.0) ∙ p.2))),
      );
      polls = λ t. let p = poll t in (subst (λ n. n % 4096 ≡ 0) (sym here) p.0, subst (λ n. n < limit) (sym here) p.1);
      due = λ k l. tidy.due k (omega (arith, l, here));
    }

    untouched : ((is_touch e ≡ false) × (later ≡ count)) ⊎ ((is_poll e ≡ false) × (count < limit) × (later ≡ count + 1)) → later ≡ count → (x : Entry) → e ≡ x
        → is_touch x ≡ false
    untouched (inl a) same x is = subst (λ z. is_touch z ≡ false) is a.0
    untouched (inr a) same x is = let z = a.2 in absurd (omega (arith, z, same))

    kept : (n : ℕ) → has_poll s n ≡ true → has_poll (s ++ e ∷ []) n ≡ true
    kept n t = one_passes (λ x. is_poll x && (count_of x == n)) s (e ∷ []) t

    new_poll : is_poll e ≡ true → has_poll (s ++ e ∷ []) count ≡ true
    new_poll t = last_passes (λ x. is_poll x && (count_of x == count)) s e (ap₂ (λ a b. a && b) t (eq-eqb (count_of e) count here))

    polled_now : count < limit → IsPolled (s ++ e ∷ []) count
    polled_now less m = by (is_poll e) refl where
      by : (b : Bool) → is_poll e ≡ b → has_poll (s ++ e ∷ []) count ≡ true
      by true t = new_poll t
      by false f = kept count (polled f less m)

    all_due : ((is_touch e ≡ false) × (later ≡ count)) ⊎ ((is_poll e ≡ false) × (count < limit) × (later ≡ count + 1)) → (k : ℕ) → k * 4096 < later
        → has_poll (s ++ e ∷ []) (k * 4096) ≡ true
    all_due (inl a) k l = let z = a.1 in kept (k * 4096) (tidy.due k (omega (arith, l, z)))
    all_due (inr a) k l = let z = a.2 in kept (k * 4096) (due_next s count tidy.due (polled a.0 a.1) k (omega (arith, l, z)))

    not_above : (i : ℕ) (x : Entry) → slice_get (s ++ e ∷ []) i ≡ Some x → count_of x ≤ count
    not_above i x at = ⊎_elim (λ l. tidy.below i x l.1) (λ q. subst (λ z. count_of z ≤ count) q.1 (omega (arith, here))) (at_one_more s e x i at)

    all_polled : ((is_touch e ≡ false) × (later ≡ count)) ⊎ ((is_poll e ≡ false) × (count < limit) × (later ≡ count + 1)) → later ≤ count → later < limit
        → IsPolled (s ++ e ∷ []) later
    all_polled (inl a) l less = let z = a.1 in subst (λ n. IsPolled (s ++ e ∷ []) n) (sym a.1) (polled_now (omega (arith, less, z)))
    all_polled (inr a) l less = let z = a.2 in absurd (omega (arith, z, l))

    bound : ((is_touch e ≡ false) × (later ≡ count)) ⊎ ((is_poll e ≡ false) × (count < limit) × (later ≡ count + 1)) → later ≤ limit
    bound (inl a) = let z = a.1 in let b = tidy.bounded in omega (arith, z, b)
    bound (inr a) = let z = a.2 in let l = a.1 in omega (arith, z, l)

-- a whole stream, with its End
pub record IsWholeStream (limit : ℕ) (s : List Entry) (count : ℕ) : Type 0 where
  pub each : EachAfter (StreamFits limit) s
  pub ends : (i : ℕ) (e : Entry) → slice_get s i ≡ Some e → is_end e ≡ true → (i + 1 ≡ length s) × (count_of e ≤ limit)
  pub last : last_of s ≡ Some (entries.End count)
  pub below : (i : ℕ) (e : Entry) → slice_get s i ≡ Some e → count_of e ≤ count
  pub due : (k : ℕ) → k * 4096 < count → has_poll s (k * 4096) ≡ true

pub whole : (limit : ℕ) (s : List Entry) (count : ℕ) → IsTidyStream limit s count → IsWholeStream limit (s ++ entries.End count ∷ []) count
whole limit s count tidy = record {
  each = each_push (StreamFits limit) s (entries.End count) tidy.each (record {
    rises = tidy.below;
    kinds = λ j b at same. (tidy.touched j b at same, tidy.ends j b at, refl);
    polls = λ t. absurd (true≢false (sym t));
    due = tidy.due;
  });
  ends = λ i e at t. ⊎_elim (λ l. absurd (true≢false (sym t ∙ tidy.ends i e l.1)))
      (λ q. (let a = q.0 in let l = length_push s (entries.End count) in omega (arith, a, l), subst (λ z. count_of z ≤ limit) q.1 tidy.bounded))
      (at_one_more s (entries.End count) e i at);
  last = (let l = length_push s (entries.End count) in let f : length (s ++ entries.End count ∷ []) - 1 ≡ length s = omega (arith, l) in
      ap (slice_get (s ++ entries.End count ∷ [])) f ∙ at_end s (entries.End count));
  below = λ i e at. ⊎_elim (λ l. tidy.below i e l.1) (λ q. subst (λ z. count_of z ≤ count) q.1 (omega arith)) (at_one_more s (entries.End count) e i at);
  due = λ k l. one_passes (λ e. is_poll e && (count_of e == k * 4096)) s (entries.End count ∷ []) (tidy.due k l);
}

-- the rules that look at one stream, of an entry of a log whose stream is whole
module _ (log : Log) (h count : ℕ) (w : IsWholeStream log.limit (stream log h) count) where
  abbrev at : ℕ → Entry → Placed
  at i e = record { hart = h; place = i; entry = e }

  previous_at : (i : ℕ) (e b : Entry) → previous log (at i e) ≡ Some b → (j : ℕ) × (j < i) × (entry_at log h j ≡ Some b)
  previous_at zero e b is = absurd (none-some _ is)
  previous_at (suc i) e b is =
      (suc i - 1, omega arith, sym (ap (λ x. if x then None else entry_at log h (suc i - 1)) (ne_eqb (suc i) 0 (λ z. absurd (omega (arith, z))))) ∙ is)

  pub o1_kept : (i : ℕ) (e : Entry) → entry_at log h i ≡ Some e → breaks_o1 log (at i e) ≡ false
  o1_kept i e is = or_from _ _
      (some_and_false (previous log (at i e)) (λ p. nat_lt (count_of e) (count_of p))
      (λ b before. let p = previous_at i e b before in le-ltb (count_of e) (count_of b)
      ((w.each i e is).rises p.0 b ((get_take (stream log h) i p.0 p.1 ∙ p.2)))))
      (by (is_end e) refl)
    where
      by : (b : Bool) → is_end e ≡ b → (b && (not (i + 1 == length (stream log h)) || nat_lt log.limit (count_of e))) ≡ false
      by false f = refl
      by true t = let l = w.ends i e is t in or_from _ _ (ap not (eq-eqb (i + 1) (length (stream log h)) l.0)) (le-ltb log.limit (count_of e) l.1)

  pub o2_kept : (i : ℕ) (e : Entry) → entry_at log h i ≡ Some e → breaks_o2 log (at i e) ≡ false
  o2_kept i e is = none_there _ (take i (stream log h)) (λ j b bt. elim (eqb_tells (count_of b) (count_of e)) [
    | inl (t, same) ↦ let k = (w.each i e is).kinds j b bt same in and_right _ _ (or_from _ _ (or_from _ _ k.0 k.1) k.2)
    | inr (f, n) ↦ ap (λ x. x && (is_touch b || is_end b || is_poll e)) f
  ])

  pub o4_kept : (i : ℕ) (e : Entry) → entry_at log h i ≡ Some e → breaks_o4 log (at i e) ≡ false
  o4_kept i e is = some_and_false (previous log (at i e)) (λ p. is_touch p && nat_le (count_of e) (count_of p)) (λ b before.
      let p = previous_at i e b before in
      let rise = (w.each i e is).rises p.0 b ((get_take (stream log h) i p.0 p.1 ∙ p.2)) in
      elim (eqb_tells (count_of b) (count_of e)) [
        | inl (t, same) ↦ ap (λ x. x && nat_le (count_of e) (count_of b)) ((w.each i e is).kinds p.0 b ((get_take (stream log h) i p.0 p.1 ∙ p.2)) same).0
        | inr (f, n) ↦ and_right (is_touch b) _ (lt-leb (count_of e) (count_of b) (omega (arith, rise, n)))
      ])

  end_is : end_count (stream log h) ≡ count
  end_is = ap (λ o. option_map_or count_of o 0) w.last

  lt_true : (a b : ℕ) → a < b → nat_lt a b ≡ true
  lt_true a b l = elim (leb_tells (suc a) b) [
    | inl (t, less) ↦ t
    | inr (f, more) ↦ absurd (omega (arith, l, more))
  ]

  -- a Poll stands where it may
  may_be : (n : ℕ) → n ≤ count → n % 4096 ≡ 0 → n < log.limit → may_poll log count n ≡ true
  may_be n l due less = elim (eqb_tells n count) [
    | inl (t, same) ↦ ap₂ (λ x y. x && (nat_lt n count || y)) (eq-eqb (n % 4096) 0 due) (ap₂ (λ x y. x && y) t (lt_true n log.limit less))
        ∙ or_true (nat_lt n count)
    | inr (f, other) ↦ ap₂ (λ x y. x && (y || ((n == count) && nat_lt n log.limit))) (eq-eqb (n % 4096) 0 due) (lt_true n count (omega (arith, l, other)))
  ] where
    or_true : (b : Bool) → (b || true) ≡ true
    or_true true = refl
    or_true false = refl

  poll_may : (e : Entry) (b : Bool) → is_poll e ≡ b → count_of e ≤ count → (is_poll e ≡ true → (count_of e % 4096 ≡ 0) × (count_of e < log.limit))
      → (b && not (may_poll log (end_count (stream log h)) (count_of e))) ≡ false
  poll_may e false is l polls = refl
  poll_may e true is l polls = ap not (ap (λ n. may_poll log n (count_of e)) end_is ∙ may_be (count_of e) l (polls is).0 (polls is).1)

  pub o3_kept : (i : ℕ) (e : Entry) → entry_at log h i ≡ Some e → breaks_o3 log (at i e) ≡ false
  o3_kept i e is = or_from _ _ (poll_may e (is_poll e) refl (w.below i e is) (w.each i e is).polls)
      (none_there _ (polls_due (end_count (stream log h))) (λ j due at_due.
      let m = map_at (λ k. k * 4096) (below ((end_count (stream log h) + 4095) / 4096)) j due at_due in
      let k = below_at ((end_count (stream log h) + 4095) / 4096) j m.0 m.1 in
      ap (λ b. not b && is_first_above log (at i e) due) (subst (λ n. has_poll (stream log h) n ≡ true) m.2 (w.due m.0 (inside m.0 k)))))
    where
      inside : (k : ℕ) → k < (end_count (stream log h) + 4095) / 4096 → k * 4096 < count
      inside k l = let f = end_is in omega (arith, l, f)
