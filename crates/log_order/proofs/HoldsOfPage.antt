-- A page's entries taken one by one, by their slots.
use Rattle.std.proofs.Common.{◌≡◌, ℕ, zero, suc, ◌+◌, ◌<◌, Bool, true, false, cond, not, List, [], ◌∷◌, ◌++◌, map, flat_map, length, Option, Some, None}
use Rattle.std.proofs.Common.{refl, sym, ap, ◌∙◌, inl, inr, ◌⊎◌, ◌≤◌, ◌*◌, arith, find, append-nil, add-one, length-append}
use Rattle.std.specs.Prelude.{◌==◌, ◌&&◌, ◌||◌, nat_le, option_and_then, slice_get, slice_set, unwrap_or, replicate, sum_by, if◌then◌else◌}
use Rattle.std.specs.List.{list_any, enumerate_from}
use Rattle.std.specs.Option.{option_or}
use lib.Pointwise.{pointwise}
use Rattle.std.proofs.Math.ListN.{length-set, length-replicate}
use Rattle.std.proofs.lemmas.Bool.{cases_eq, eqb-true, eq-eqb, ne_eqb, leb-false, true≢false}
use Rattle.std.proofs.lemmas.List.{get_or-set_same, get_or-set_other}
use Rattle.std.proofs.lemmas.List.Elements.{filter-append}
use Rattle.std.proofs.lemmas.List.Folds.{find-append, list_any-append}
use Rattle.std.proofs.lemmas.List.Sums.{sum_by-set, sum_by-cons}
use Rattle.std.proofs.lemmas.Option.{none-some, same_Some, slice_get_within}
use Rattle.orders_law.specs.Orders.{below}
use Rattle.rv_words.specs.declared.shared.Mode.{Mode}
use Rattle.rv_words.specs.declared.shared.Mode.TheVariants.{Read, Write}
use Rattle.log_entry.specs.declared.waits.WaitFor.{WaitFor}
use Rattle.log_entry.specs.declared.log.Entry.{Entry}
use Rattle.log_entry.specs.declared.log.Entry.TheVariants.{Gain, Yield, Poll, Touch, End}
use Rattle.log_entry.specs.declared.log.Log.{Log}
use Rattle.log_entry.specs.Parts.{is_some_and, page_number, holds_then, strength, conflict}
use Rattle.order_rules.specs.Places.{entry_at, stream, is_number, number_on, numbered}
use Rattle.order_rules.specs.Rules.{held, held_after, waits_due, waits_after, same_wait, breaks_o6, breaks_o7, yields_after}
use Rattle.order_rules.specs.Orderly.{Spot, Keeps, o5, o6, o7}
use Rattle.order_rules.proofs.Numbers.{numbers_name, in_stream}
use Rattle.log_order.specs.declared.orderly.Leg.{Leg}
use Rattle.log_order.specs.declared.series.Series.TheVariants.{Pages}
use Rattle.log_order.specs.Rows.{slot, AreFilled}
use Rattle.log_order.specs.Holding.{hold_of, holds_wrongly, waits_of, waits_wrongly, AreHeld, AreDue, YieldsAreFew}

-- where no entry passes, none is found
module _ (f : Entry → Bool) where
  none_in_row : (k : ℕ) (s : List Entry) → ((i : ℕ) (e : Entry) → slice_get s i ≡ Some e → f e ≡ false)
      → find (λ (x : ℕ × Entry). f x.1) (map (λ e. (k, e)) s) ≡ None
  none_in_row k [] h = refl
  none_in_row k (y ∷ s) h =
      ap (λ b. cond b (Some (k, y)) (find (λ (x : ℕ × Entry). f x.1) (map (λ e. (k, e)) s))) (h 0 y refl) ∙ none_in_row k s (λ i e at. h (suc i) e at)

  none_in_rows : (n : ℕ) (streams : List (List Entry))
      → ((h i : ℕ) (s : List Entry) (e : Entry) → slice_get streams h ≡ Some s → slice_get s i ≡ Some e → f e ≡ false)
      → find (λ (x : ℕ × Entry). f x.1) (flat_map (λ (s : ℕ × List Entry). map (λ e. (s.0, e)) s.1) (enumerate_from n streams)) ≡ None
  none_in_rows n [] h = refl
  none_in_rows n (s ∷ streams) h =
      find-append (λ (x : ℕ × Entry). f x.1) (map (λ e. (n, e)) s) (flat_map (λ (s : ℕ × List Entry). map (λ e. (s.0, e)) s.1) (enumerate_from (n + 1) streams))
      ∙ ap (λ o. option_or o (find (λ (x : ℕ × Entry). f x.1) (flat_map (λ (s : ℕ × List Entry). map (λ e. (s.0, e)) s.1) (enumerate_from (n + 1) streams))))
      (none_in_row n s (λ i e at. h 0 i s e refl at))
      ∙ none_in_rows (n + 1) streams (λ g i t e there at. h (suc g) i t e there at)

is_the_key : (n : ℕ × ℕ) (page k : ℕ) (b : Bool) → (n.0 == page) ≡ b → is_number k (cond b (Some n.1) None) ≡ true → Some n ≡ Some (page, k)
is_the_key n page k true e t = ap (λ (a : ℕ). Some (a, n.1)) (eqb-true n.0 page e) ∙ ap (λ (a : ℕ). Some (page, a)) (eqb-true n.1 k t)
is_the_key n page k false e t = absurd (true≢false (sym t))

key_from_number : (e : Entry) (page k : ℕ) → is_number k (number_on page e) ≡ true → page_number e ≡ Some (page, k)
key_from_number e page k t = by (page_number e) refl
  where
    by : (o : Option (ℕ × ℕ)) → page_number e ≡ o → page_number e ≡ Some (page, k)
    by None is = absurd (true≢false (sym t ∙ ap (λ o. is_number k (option_and_then (λ (x : ℕ × ℕ). if x.0 == page then Some x.1 else None) o)) is))
    by (Some n) is =
        is ∙ is_the_key n page k (n.0 == page) refl
        (sym (ap (λ o. is_number k (option_and_then (λ (x : ℕ × ℕ). if x.0 == page then Some x.1 else None) o)) is) ∙ t)

-- the entry in a slot
pub record Standing (log : Log) (page k : ℕ) (leg : Leg) (e : Entry) : Type 0 where
  pub key : page_number e ≡ Some (page, k)
  pub numbered : numbered log page k ≡ Some (leg.hart, e)
  pub hart : leg.hart < length log.streams

module _ (log : Log) (rows : List (List (Option Leg))) (filled : AreFilled Pages log (length log.streams) 0 rows) (keeps : Keeps log o5) where
  pub stands_there : (page k : ℕ) (leg : Leg) (e : Entry) → slot rows (page, k) ≡ Some leg → entry_at log leg.hart leg.entry ≡ Some e
      → Standing log page k leg e
  stands_there page k leg e is at =
      let o = filled.only leg (page, k) is in
      let key : page_number e ≡ Some (page, k) = ap page_number (same_Some e o.1.0 (sym at ∙ o.1.1)) ∙ o.1.2 in
      record {
        key = key;
        numbered = numbers_name log leg.hart leg.entry page k e keeps at key;
        hart = slice_get_within log.streams leg.hart (stream log leg.hart) (in_stream log leg.hart leg.entry e at);
      }

  pub in_slot : (p : Leg) (e : Entry) (page k : ℕ) → entry_at log p.hart p.entry ≡ Some e → page_number e ≡ Some (page, k) → slot rows (page, k) ≡ Some p
  in_slot p e page k at key =
      filled.stands p e (page, k) (inl (slice_get_within log.streams p.hart (stream log p.hart) (in_stream log p.hart p.entry e at))) at key

  pub nothing_there : (page k : ℕ) → slot rows (page, k) ≡ None → numbered log page k ≡ None
  nothing_there page k is =
      none_in_rows (λ e. is_number k (number_on page e)) 0 log.streams
      (λ h i s e there at. none h i e (ap (λ o. slice_get (unwrap_or o []) i) there ∙ at) (is_number k (number_on page e)) refl)
    where
      none : (h i : ℕ) (e : Entry) → entry_at log h i ≡ Some e → (b : Bool) → is_number k (number_on page e) ≡ b → b ≡ false
      none h i e at false t = refl
      none h i e at true t =
          absurd (none-some _
          (sym is ∙ filled.stands (record { hart = h; entry = i }) e (page, k)
          (inl (slice_get_within log.streams h (stream log h) (in_stream log h i e at))) at (key_from_number e page k t)))

no_hold : (size h : ℕ) → hold_of (replicate size None) h ≡ None
no_hold zero h = refl
no_hold (suc size) zero = refl
no_hold (suc size) (suc h) = no_hold size h

pub held_at_first : (log : Log) (page : ℕ) → AreHeld log page 0 (replicate (length log.streams) None)
held_at_first log page = record { size = length-replicate (length log.streams) None; each = λ h l. no_hold (length log.streams) h }

waits_then : (yields : List WaitFor) (g h : ℕ) (e : Entry) → waits_of (yields_after g e yields) h ≡ waits_after h (waits_of yields h) (Some (g, e))
waits_then yields g h (Gain count page seq mode waits) = refl
waits_then yields g h (Poll count ord time bits) = refl
waits_then yields g h (Touch count ord input) = refl
waits_then yields g h (End count) = refl
waits_then yields g h (Yield count page seq left) =
    filter-append (λ w. not (w.hart == h)) yields (record { hart = g; count = count } ∷ []) ∙ by (g == h)
  where
    by : (b : Bool)
        → (waits_of yields h ++ cond (not b) (record { hart = g; count = count } ∷ []) [])
        ≡ cond b (waits_of yields h) (waits_of yields h ++ record { hart = g; count = count } ∷ [])
    by true = append-nil (waits_of yields h)
    by false = refl

held_then_of : (holds : List (Option Mode)) (g h : ℕ) (e : Entry) → g < length holds
    → hold_of (slice_set holds g (holds_then e)) h ≡ held_after h (hold_of holds h) (Some (g, e))
held_then_of holds g h e l = elim (cases_eq h g) [
  | inl same ↦ ap (hold_of (slice_set holds g (holds_then e))) same ∙ get_or-set_same holds g (holds_then e) None l
      ∙ ap (λ b. cond b (holds_then e) (hold_of holds h)) (sym (eq-eqb g h (sym same)))
  | inr other ↦ get_or-set_other holds g h (holds_then e) None other ∙ ap (λ b. cond b (holds_then e) (hold_of holds h)) (sym (ne_eqb g h (λ e. other (sym e))))
]

-- one more number of the page is taken: no entry has it, or a hart's
pub held_past : (log : Log) (page k : ℕ) (holds : List (Option Mode)) → AreHeld log page k holds → numbered log page k ≡ None → AreHeld log page (k + 1) holds
held_past log page k holds now is = record {
  size = now.size;
  each = λ h l. now.each h l ∙ ap (held_after h (held log page h k)) (sym is) ∙ ap (held log page h) (sym (add-one k));
}

pub due_past : (log : Log) (page k : ℕ) → numbered log page k ≡ None → AreDue log page (k + 1) []
due_past log page k is h = ap (waits_after h (waits_due log page h k)) (sym is) ∙ ap (waits_due log page h) (sym (add-one k))

pub held_next : (log : Log) (page k g : ℕ) (e : Entry) (holds : List (Option Mode)) → AreHeld log page k holds → numbered log page k ≡ Some (g, e)
    → g < length log.streams
    → AreHeld log page (k + 1) (slice_set holds g (holds_then e))
held_next log page k g e holds now is there =
    let size = now.size in
    record {
      size = length-set holds g (holds_then e) ∙ now.size;
      each = λ h l.
          held_then_of holds g h e (omega (arith, size, there)) ∙ ap (λ z. held_after h z (Some (g, e))) (now.each h l)
          ∙ ap (held_after h (held log page h k)) (sym is) ∙ ap (held log page h) (sym (add-one k));
    }

pub due_next : (log : Log) (page k g : ℕ) (e : Entry) (yields : List WaitFor) → AreDue log page k yields → numbered log page k ≡ Some (g, e)
    → AreDue log page (k + 1) (yields_after g e yields)
due_next log page k g e yields now is h =
    waits_then yields g h e ∙ ap (λ z. waits_after h z (Some (g, e))) (now h)
    ∙ ap (waits_after h (waits_due log page h k)) (sym is) ∙ ap (waits_due log page h) (sym (add-one k))

-- a hart holds no more than Write, so all hold no more than twice their number
most_held : (holds : List (Option Mode)) → sum_by strength holds ≤ 2 * length holds
most_held [] = omega arith
most_held (x ∷ holds) =
    let rest = most_held holds in
    let one : strength x ≤ 2 = at_most x in
    omega (arith, rest, one, sum_by-cons strength x holds)
  where
    at_most : (x : Option Mode) → strength x ≤ 2
    at_most None = omega arith
    at_most (Some Read) = omega arith
    at_most (Some Write) = omega arith

pub few_at_first : (holds : List (Option Mode)) → YieldsAreFew holds []
few_at_first holds = let m = most_held holds in omega (arith, m)

-- a yield that leaves less than its hart held
pub few_yielded : (holds : List (Option Mode)) (yields : List WaitFor) (h count : ℕ) (left : Option Mode) → YieldsAreFew holds yields → h < length holds
    → nat_le (strength (hold_of holds h)) (strength left) ≡ false
    → YieldsAreFew (slice_set holds h left) (yields ++ record { hart = h; count = count } ∷ [])
few_yielded holds yields h count left few l less =
    let weight = sum_by-set strength holds h left None l in
    let fell = leb-false (strength (hold_of holds h)) (strength left) less in
    omega (arith, few, weight, fell, length-set holds h left, length-append yields (record { hart = h; count = count } ∷ []))

-- and before it is told
pub few_given_back : (holds : List (Option Mode)) (yields : List WaitFor) (h : ℕ) (left : Option Mode) → YieldsAreFew holds yields → h < length holds
    → nat_le (strength (hold_of holds h)) (strength left) ≡ false
    → YieldsAreFew (slice_set holds h left) yields
few_given_back holds yields h left few l less =
    let weight = sum_by-set strength holds h left None l in
    let fell = leb-false (strength (hold_of holds h)) (strength left) less in
    omega (arith, few, weight, fell, length-set holds h left)

module _ (f g : ℕ → Bool) where
  pub same_below : (n : ℕ) → ((i : ℕ) → i < n → f i ≡ g i) → list_any f (below n) ≡ list_any g (below n)
  same_below zero h = refl
  same_below (suc n) h =
      list_any-append f (below n) (n ∷ [])
      ∙ ap (λ b. b || (f n || false)) (same_below n (λ i l. h i (omega (arith, l))))
      ∙ ap (λ b. list_any g (below n) || (b || false)) (h n (omega arith))
      ∙ sym (list_any-append g (below n) (n ∷ []))

-- O6 at an entry of the page, by what is held before its number
pub o6_where : (log : Log) (h i page k : ℕ) (e : Entry) (holds : List (Option Mode)) → entry_at log h i ≡ Some e → page_number e ≡ Some (page, k)
    → h < length log.streams → AreHeld log page k holds → o6 log (h, i) ≡ holds_wrongly holds h e
o6_where log h i page k e holds at key there now =
    ap (λ o. is_some_and o (λ z. breaks_o6 log (record { hart = h; place = i; entry = z }))) at ∙ by e key
  where
    by : (e : Entry) → page_number e ≡ Some (page, k) → breaks_o6 log (record { hart = h; place = i; entry = e }) ≡ holds_wrongly holds h e
    by (Gain count page' seq mode waits) key =
        let same : (page', seq) ≡ (page, k) = same_Some _ _ key in
        let p : page' ≡ page = ap (λ (z : ℕ × ℕ). z.0) same in
        let q : seq ≡ k = ap (λ (z : ℕ × ℕ). z.1) same in
        ap (λ (page : ℕ). breaks_o6 log (record { hart = h; place = i; entry = Gain count page seq mode waits })) p
        ∙ ap (λ (seq : ℕ). breaks_o6 log (record { hart = h; place = i; entry = Gain count page seq mode waits })) q
        ∙ ap (λ z. nat_le (strength (Some mode)) (strength z)
        || list_any (λ g. not (g == h) && conflict (Some mode) (held log page g k)) (below (length log.streams))) (sym (now.each h there))
        ∙ ap (λ b. nat_le (strength (Some mode)) (strength (hold_of holds h)) || b) (
        same_below (λ g. not (g == h) && conflict (Some mode) (held log page g k)) (λ g. not (g == h) && conflict (Some mode) (hold_of holds g))
        (length log.streams)
        (λ g l. ap (λ z. not (g == h) && conflict (Some mode) z) (sym (now.each g l)))
        ∙ ap (λ (n : ℕ). list_any (λ g. not (g == h) && conflict (Some mode) (hold_of holds g)) (below n)) (sym now.size))
    by (Yield count page' seq left) key =
        let same : (page', seq) ≡ (page, k) = same_Some _ _ key in
        let p : page' ≡ page = ap (λ (z : ℕ × ℕ). z.0) same in
        let q : seq ≡ k = ap (λ (z : ℕ × ℕ). z.1) same in
        ap (λ (page : ℕ). nat_le (strength (held log page h seq)) (strength left)) p
        ∙ ap (λ (seq : ℕ). nat_le (strength (held log page h seq)) (strength left)) q
        ∙ ap (λ z. nat_le (strength z) (strength left)) (sym (now.each h there))
    by (Poll count ord time bits) key = absurd (none-some _ key)
    by (Touch count ord input) key = absurd (none-some _ key)
    by (End count) key = absurd (none-some _ key)

-- and O7
pub o7_where : (log : Log) (h i page k : ℕ) (e : Entry) (yields : List WaitFor) → entry_at log h i ≡ Some e → page_number e ≡ Some (page, k)
    → AreDue log page k yields → o7 log (h, i) ≡ waits_wrongly yields h e
o7_where log h i page k e yields at key now =
    ap (λ o. is_some_and o (λ z. breaks_o7 log (record { hart = h; place = i; entry = z }))) at ∙ by e key
  where
    by : (e : Entry) → page_number e ≡ Some (page, k) → breaks_o7 log (record { hart = h; place = i; entry = e }) ≡ waits_wrongly yields h e
    by (Gain count page' seq mode waits) key =
        let same : (page', seq) ≡ (page, k) = same_Some _ _ key in
        let p : page' ≡ page = ap (λ (z : ℕ × ℕ). z.0) same in
        let q : seq ≡ k = ap (λ (z : ℕ × ℕ). z.1) same in
        ap (λ (page : ℕ). not (pointwise same_wait waits.items (waits_due log page h seq))) p
        ∙ ap (λ (seq : ℕ). not (pointwise same_wait waits.items (waits_due log page h seq))) q
        ∙ ap (λ z. not (pointwise same_wait waits.items z)) (sym (now h))
    by (Yield count page' seq left) key = refl
    by (Poll count ord time bits) key = refl
    by (Touch count ord input) key = refl
    by (End count) key = refl

-- what breaks them is an entry of a page
pub of_a_page : (log : Log) (q : Spot) → (o6 log q ≡ true) ⊎ (o7 log q ≡ true)
    → (e : Entry) × ((n : ℕ × ℕ) × (entry_at log q.0 q.1 ≡ Some e) × (page_number e ≡ Some n))
of_a_page log q breaks = by (entry_at log q.0 q.1) refl
  where
    numbered : (e : Entry)
        → (breaks_o6 log (record { hart = q.0; place = q.1; entry = e }) ≡ true) ⊎ (breaks_o7 log (record { hart = q.0; place = q.1; entry = e }) ≡ true)
        → (n : ℕ × ℕ) × (page_number e ≡ Some n)
    numbered (Gain count page seq mode waits) t = ((page, seq), refl)
    numbered (Yield count page seq left) t = ((page, seq), refl)
    numbered (Poll count ord time bits) t = absurd (elim t [ inl a ↦ true≢false (sym a) | inr a ↦ true≢false (sym a) ])
    numbered (Touch count ord input) t = absurd (elim t [ inl a ↦ true≢false (sym a) | inr a ↦ true≢false (sym a) ])
    numbered (End count) t = absurd (elim t [ inl a ↦ true≢false (sym a) | inr a ↦ true≢false (sym a) ])

    by : (o : Option Entry) → entry_at log q.0 q.1 ≡ o → (e : Entry) × ((n : ℕ × ℕ) × (entry_at log q.0 q.1 ≡ Some e) × (page_number e ≡ Some n))
    by None is = absurd (elim breaks [
      | inl a ↦ true≢false (sym a ∙ ap (λ o. is_some_and o (λ z. breaks_o6 log (record { hart = q.0; place = q.1; entry = z }))) is)
      | inr a ↦ true≢false (sym a ∙ ap (λ o. is_some_and o (λ z. breaks_o7 log (record { hart = q.0; place = q.1; entry = z }))) is)
    ])
    by (Some e) is =
        let n = numbered e (elim breaks [
          | inl a ↦ inl (sym (ap (λ o. is_some_and o (λ z. breaks_o6 log (record { hart = q.0; place = q.1; entry = z }))) is) ∙ a)
          | inr a ↦ inr (sym (ap (λ o. is_some_and o (λ z. breaks_o7 log (record { hart = q.0; place = q.1; entry = z }))) is) ∙ a)
        ]) in
        (e, (n.0, is, n.1))
