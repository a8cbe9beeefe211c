-- Filling rows entry by entry.
use Rattle.std.proofs.Common.{◌≡◌, ℕ, zero, suc, ◌+◌, ◌<◌, Bool, true, false, List, [], ◌∷◌, map, length, Option, Some, None, refl, sym, ap, ◌∙◌, subst, inl}
use Rattle.std.proofs.Common.{inr, ◌⊎◌, arith, eq-or-lt_of_le, le_of_suc-le-suc}
use Rattle.std.specs.Prelude.{◌&&◌, ◌||◌, not, nat_le, nat_lt, slice_get, slice_set, unwrap_or, is_some, option_map, option_and_then, ◌==◌, replicate}
use Rattle.std.specs.Prelude.{slice_index}
use Rattle.std.specs.List.{list_any}
use Rattle.std.proofs.Math.ListN.{length-set, length-map, length-replicate}
use Rattle.std.proofs.lemmas.Bool.{and_from, and_parts, eqb-true, eq-eqb, false_from_ne_true, cases_lt, cases_eq, ltb-true, lt-ltb, le-ltb, le-leb, lt-leb}
use Rattle.std.proofs.lemmas.Bool.{not-true, true≢false}
use Rattle.std.proofs.lemmas.List.{get_or-set_same, get_or-set_other}
use Rattle.std.proofs.lemmas.Option.{none-some, same_Some, slice_get_within, slice_get_past}
use Rattle.log_entry.specs.declared.log.Entry.{Entry}
use Rattle.log_entry.specs.declared.log.Log.{Log}
use Rattle.log_entry.specs.Parts.{is_some_and, ordinal_of}
use Rattle.order_rules.specs.Places.{entry_at, stream, earlier}
use Rattle.order_rules.specs.Orderly.{Spot}
use Rattle.order_rules.specs.Laws.{IsBefore}
use Rattle.log_order.specs.declared.orderly.Leg.{Leg}
use Rattle.log_order.specs.declared.series.Series.{Series}
use Rattle.log_order.specs.declared.series.Series.TheVariants.{Pages, Ordinals}
use Rattle.log_order.specs.Bounds.{IsSmall}
use Rattle.log_order.specs.Rows.{key_of, has_key, width_of, size_of_row, misplaced, is_misplaced, slot_in, row_of, slot, is_free, with_leg, spot_of}
use Rattle.log_order.specs.Rows.{RowsBelow, AreFilled}
use Rattle.log_order.proofs.Earlier.{any_earlier, none_earlier}

pub get_set_same : {X : Type 0} (xs : List X) (i : ℕ) (y : X) → i < length xs → slice_get (slice_set xs i y) i ≡ Some y
get_set_same [] i y l = absurd (omega (arith, l))
get_set_same (x ∷ xs) zero y l = refl
get_set_same (x ∷ xs) (suc i) y l = get_set_same xs i y (omega (arith, l))

pub get_set_other : {X : Type 0} (xs : List X) (i j : ℕ) (y : X) → (j ≡ i → ⊥) → slice_get (slice_set xs i y) j ≡ slice_get xs j
get_set_other [] i j y ne = refl
get_set_other (x ∷ xs) zero zero y ne = absurd (ne refl)
get_set_other (x ∷ xs) zero (suc j) y ne = refl
get_set_other (x ∷ xs) (suc i) zero y ne = refl
get_set_other (x ∷ xs) (suc i) (suc j) y ne = get_set_other xs i j y (λ e. ne (ap (λ (k : ℕ). suc k) e))

abbrev with_one : List (List (Option Leg)) → ℕ × ℕ → Leg → List (List (Option Leg))
with_one rows n leg = slice_set rows n.0 (slice_set (row_of rows n.0) n.1 (Some leg))

slot_same : (rows : List (List (Option Leg))) (n : ℕ × ℕ) (leg : Leg) → n.0 < length rows → n.1 < length (row_of rows n.0)
    → slot (with_one rows n leg) n ≡ Some leg
slot_same rows n leg l m =
    ap (λ row. slot_in row n.1) (get_or-set_same rows n.0 (slice_set (row_of rows n.0) n.1 (Some leg)) [] l)
    ∙ ap (option_and_then (λ o. o)) (get_set_same (row_of rows n.0) n.1 (Some leg) m)

slot_other : (rows : List (List (Option Leg))) (n m : ℕ × ℕ) (leg : Leg) → n.0 < length rows → ((m.0 ≡ n.0) → (m.1 ≡ n.1) → ⊥)
    → slot (with_one rows n leg) m ≡ slot rows m
slot_other rows n m leg l ne = elim (cases_eq m.0 n.0) [
  | inl same ↦
      let row : row_of (with_one rows n leg) m.0 ≡ slice_set (row_of rows m.0) n.1 (Some leg) =
      ap (row_of (with_one rows n leg)) same ∙ get_or-set_same rows n.0 (slice_set (row_of rows n.0) n.1 (Some leg)) [] l
      ∙ ap (λ (g : ℕ). slice_set (row_of rows g) n.1 (Some leg)) (sym same) in
      ap (λ r. slot_in r m.1) row ∙ ap (option_and_then (λ o. o)) (get_set_other (row_of rows m.0) n.1 m.1 (Some leg) (ne same))
  | inr other ↦ ap (λ row. slot_in row m.1) (get_or-set_other rows n.0 m.0 (slice_set (row_of rows n.0) n.1 (Some leg)) [] other)
]

has : (series : Series) (n : ℕ × ℕ) (e : Entry) → key_of series e ≡ Some n → has_key series n e ≡ true
has series n e is =
    ap (λ o. is_some_and o (λ x. (x.0 == n.0) && (x.1 == n.1))) is ∙ and_from (n.0 == n.0) (n.1 == n.1) (eq-eqb n.0 n.0 refl) (eq-eqb n.1 n.1 refl)

has_it : (series : Series) (n : ℕ × ℕ) (e : Entry) → has_key series n e ≡ true → key_of series e ≡ Some n
has_it series n e t = by (key_of series e) refl
  where
    by : (o : Option (ℕ × ℕ)) → key_of series e ≡ o → key_of series e ≡ Some n
    by None is = absurd (true≢false (sym t ∙ ap (λ o. is_some_and o (λ x. (x.0 == n.0) && (x.1 == n.1))) is))
    by (Some x) is =
        let both = and_parts (x.0 == n.0) (x.1 == n.1) (sym (ap (λ o. is_some_and o (λ z. (z.0 == n.0) && (z.1 == n.1))) is) ∙ t) in
        let one = eqb-true x.0 n.0 both.0 in
        let two = eqb-true x.1 n.1 both.1 in
        is ∙ ap (λ (a : ℕ). Some (a, x.1)) one ∙ ap (λ (b : ℕ). Some (n.0, b)) two

pub at_spot : (log : Log) (h i : ℕ) (t : List Entry) (e : Entry) → slice_get log.streams h ≡ Some t → slice_get t i ≡ Some e → entry_at log h i ≡ Some e
at_spot log h i t e got at = ap (λ o. slice_get (unwrap_or o []) i) got ∙ at

stands_earlier : (series : Series) (log : Log) (h i : ℕ) (rows : List (List (Option Leg))) (e : Entry) (n : ℕ × ℕ) → AreFilled series log h i rows
    → list_any (has_key series n) (earlier log (record { hart = h; place = i; entry = e })) ≡ is_some (slot rows n)
stands_earlier series log h i rows e n filled = by (slot rows n) refl
  where
    by : (o : Option Leg) → slot rows n ≡ o → list_any (has_key series n) (earlier log (record { hart = h; place = i; entry = e })) ≡ is_some (slot rows n)
    by None is =
        none_earlier (has_key series n) log (record { hart = h; place = i; entry = e }) (λ q x before at. false_from_ne_true (has_key series n x) (λ t.
        none-some _ (sym is ∙ filled.stands (record { hart = q.0; entry = q.1 }) x n before at (has_it series n x t))))
        ∙ ap is_some (sym is)
    by (Some p) is =
        let o = filled.only p n is in
        any_earlier (has_key series n) log (record { hart = h; place = i; entry = e }) (spot_of p) o.1.0 o.0 o.1.1 (has series n o.1.0 o.1.2)
        ∙ ap is_some (sym is)

same_tests : (size k : ℕ) (b : Bool) → (nat_le size k || b) ≡ not (nat_lt k size && not b)
same_tests size k b = elim (cases_lt k size) [
  | inl l ↦ ap (λ z. z || b) (lt-leb size k l) ∙ twice b ∙ ap (λ z. not (z && not b)) (sym (lt-ltb k size l))
  | inr l ↦ ap (λ z. z || b) (le-leb size k l) ∙ ap (λ z. not (z && not b)) (sym (le-ltb k size l))
]
  where
    twice : (c : Bool) → c ≡ not (not c)
    twice true = refl
    twice false = refl

-- an entry is misplaced exactly where its slot isn't free
pub misplaced_where : (series : Series) (log : Log) (h i : ℕ) (rows : List (List (Option Leg))) (e : Entry) → AreFilled series log h i rows
    → RowsBelow series log (length rows) → entry_at log h i ≡ Some e
    → misplaced series log (h, i) ≡ not (is_free rows (key_of series e))
misplaced_where series log h i rows e filled below at =
    ap (λ o. is_some_and o (λ z. is_misplaced series log (record { hart = h; place = i; entry = z }))) at ∙ by (key_of series e) refl
  where
    test : ℕ × ℕ → Bool
    test n = nat_le (size_of_row series log n.0) n.1 || list_any (has_key series n) (earlier log (record { hart = h; place = i; entry = e }))

    by : (o : Option (ℕ × ℕ)) → key_of series e ≡ o → is_misplaced series log (record { hart = h; place = i; entry = e }) ≡ not (is_free rows (key_of series e))
    by None is =
        ap (λ o. is_some_and o
        (λ n. nat_le (size_of_row series log n.0) n.1 || list_any (has_key series n) (earlier log (record { hart = h; place = i; entry = e })))) is
        ∙ ap (λ o. not (is_free rows o)) (sym is)
    by (Some n) is =
        ap (λ o. is_some_and o
        (λ n. nat_le (size_of_row series log n.0) n.1 || list_any (has_key series n) (earlier log (record { hart = h; place = i; entry = e })))) is
        ∙ ap (λ b. nat_le (size_of_row series log n.0) n.1 || b) (stands_earlier series log h i rows e n filled)
        ∙ same_tests (size_of_row series log n.0) n.1 (is_some (slot rows n))
        ∙ ap (λ size. not (nat_lt n.1 size && not (is_some (slot rows n)))) (sym (filled.sizes n.0 (below h i e n at is)))
        ∙ ap (λ o. not (is_free rows o)) (sym is)

up_to : (p : Spot) (h i : ℕ) → IsBefore p (h, i + 1) → IsBefore p (h, i) ⊎ ((p.0 ≡ h) × (p.1 ≡ i))
up_to p h i before = elim before [
  | inl l ↦ inl (inl l)
  | inr b ↦ elim (eq-or-lt_of_le (le_of_suc-le-suc (let l = b.1 in let m : p.1 < suc i = omega (arith, l) in m))) [
    | inl same ↦ inr (b.0, same)
    | inr less ↦ inl (inr (b.0, less))
  ]
]

later : (p : Spot) (h i : ℕ) → IsBefore p (h, i) → IsBefore p (h, i + 1)
later p h i before = elim before [
  | inl l ↦ inl l
  | inr b ↦ let l = b.1 in inr (b.0, omega (arith, l))
]

here : (log : Log) (h i : ℕ) (e x : Entry) (p : Spot) → entry_at log h i ≡ Some e → p.0 ≡ h → p.1 ≡ i → entry_at log p.0 p.1 ≡ Some x → x ≡ e
here log h i e x p at a b there = same_Some x e (sym there ∙ ap (λ (g : ℕ). entry_at log g p.1) a ∙ ap (λ (j : ℕ). entry_at log h j) b ∙ at)

same_pair : (m n : ℕ × ℕ) → (m ≡ n) ⊎ (m.0 ≡ n.0 → m.1 ≡ n.1 → ⊥)
same_pair m n = elim (cases_eq m.0 n.0) [
  | inl a ↦ elim (cases_eq m.1 n.1) [
    | inl b ↦ inl (ap (λ (k : ℕ). (k, m.1)) a ∙ ap (λ (k : ℕ). (n.0, k)) b)
    | inr b ↦ inr (λ x y. b y)
  ]
  | inr a ↦ inr (λ x y. a x)
]

first_key : (o : Option ℕ) (n : ℕ × ℕ) → option_map (λ k. (0, k)) o ≡ Some n → n.0 ≡ 0
first_key None n is = absurd (none-some n is)
first_key (Some k) n is = sym (ap (λ (z : ℕ × ℕ). z.0) (same_Some _ _ is))

-- each entry has a row
pub rows_below : (series : Series) (log : Log) (h i : ℕ) (rows : List (List (Option Leg))) → IsSmall log → AreFilled series log h i rows
    → RowsBelow series log (length rows)
rows_below Pages log h i rows small filled = λ g j e n at is. (let l = small.pages g j e n at is in let w = filled.width in omega (arith, l, w))
rows_below Ordinals log h i rows small filled = λ g j e n at is. (let z = first_key (ordinal_of e) n is in let w = filled.width in omega (arith, z, w))

row_size : (rows : List (List (Option Leg))) (n : ℕ × ℕ) (leg : Leg) (g : ℕ) → n.0 < length rows
    → length (row_of (with_one rows n leg) g) ≡ length (row_of rows g)
row_size rows n leg g l = elim (cases_eq g n.0) [
  | inl same ↦ ap (λ (k : ℕ). length (row_of (with_one rows n leg) k)) same
      ∙ ap length (get_or-set_same rows n.0 (slice_set (row_of rows n.0) n.1 (Some leg)) [] l)
      ∙ length-set (row_of rows n.0) n.1 (Some leg)
      ∙ ap (λ (k : ℕ). length (row_of rows k)) (sym same)
  | inr other ↦ ap length (get_or-set_other rows n.0 g (slice_set (row_of rows n.0) n.1 (Some leg)) [] other)
]

nothing_there : {X : Type 0} (o : Option X) (x : X) → is_some o ≡ false → o ≡ Some x → ⊥
nothing_there None x e is = none-some x is
nothing_there (Some y) x e is = true≢false e

whole_leg : (p : Leg) (h i : ℕ) → p.hart ≡ h → p.entry ≡ i → record { hart = h; entry = i } ≡ p
whole_leg p h i a b =
    ap (λ (k : ℕ). (let l : Leg = record { hart = k; entry = i } in l)) (sym a)
    ∙ ap (λ (k : ℕ). (let l : Leg = record { hart = p.hart; entry = k } in l)) (sym b)

-- one more entry stands in its slot
pub one_filled : (series : Series) (log : Log) (h i : ℕ) (rows : List (List (Option Leg))) (e : Entry) → AreFilled series log h i rows
    → RowsBelow series log (length rows) → entry_at log h i ≡ Some e
    → is_free rows (key_of series e) ≡ true → AreFilled series log h (i + 1) (with_leg rows (key_of series e) (record { hart = h; entry = i }))
one_filled series log h i rows e filled below at free = by (key_of series e) refl
  where
    leg : Leg
    leg = record { hart = h; entry = i }

    nothing : key_of series e ≡ None → AreFilled series log h (i + 1) rows
    nothing is = record {
      width = filled.width;
      sizes = filled.sizes;
      stands = λ p x m before there key. elim (up_to (spot_of p) h i before) [
        | inl b ↦ filled.stands p x m b there key
        | inr b ↦ absurd (none-some m (sym is ∙ ap (key_of series) (sym (here log h i e x (spot_of p) at b.0 b.1 there)) ∙ key))
      ];
      only = λ p m is. let o = filled.only p m is in (later (spot_of p) h i o.0, o.1);
    }

    something : (n : ℕ × ℕ) → key_of series e ≡ Some n → is_free rows (Some n) ≡ true → AreFilled series log h (i + 1) (with_one rows n leg)
    something n is free =
        let both = and_parts (nat_lt n.1 (length (row_of rows n.0))) (not (is_some (slot rows n))) free in
        let wide = below h i e n at is in
        let fits = ltb-true n.1 (length (row_of rows n.0)) both.0 in
        let empty = not-true (is_some (slot rows n)) both.1 in
        record {
          width = length-set rows n.0 (slice_set (row_of rows n.0) n.1 (Some leg)) ∙ filled.width;
          sizes = λ g l. row_size rows n leg g wide
              ∙ filled.sizes g (subst (λ (z : ℕ). g < z) (length-set rows n.0 (slice_set (row_of rows n.0) n.1 (Some leg))) l);
          stands = λ p x m before there key. elim (up_to (spot_of p) h i before) [
            | inl b ↦ elim (same_pair m n) [
              | inl same ↦ absurd (nothing_there (slot rows n) p empty (ap (slot rows) (sym same) ∙ filled.stands p x m b there key))
              | inr other ↦ slot_other rows n m leg wide other ∙ filled.stands p x m b there key
            ]
            | inr b ↦
                let same : n ≡ m = same_Some n m (sym is ∙ ap (key_of series) (sym (here log h i e x (spot_of p) at b.0 b.1 there)) ∙ key) in
                ap (slot (with_one rows n leg)) (sym same) ∙ slot_same rows n leg wide fits ∙ ap Some (whole_leg p h i b.0 b.1)
          ];
          only = λ p m stands. elim (same_pair m n) [
            | inl same ↦
                let it : leg ≡ p = same_Some leg p (sym (slot_same rows n leg wide fits) ∙ ap (slot (with_one rows n leg)) (sym same) ∙ stands) in
                subst (λ (z : Leg). IsBefore (spot_of z) (h, i + 1) × ((x : Entry) × (entry_at log z.hart z.entry ≡ Some x) × (key_of series x ≡ Some m))) it
                (inr (refl, omega arith), (e, at, is ∙ ap Some (sym same)))
            | inr other ↦ let o = filled.only p m (sym (slot_other rows n m leg wide other) ∙ stands) in (later (spot_of p) h i o.0, o.1)
          ];
        }

    by : (o : Option (ℕ × ℕ)) → key_of series e ≡ o → AreFilled series log h (i + 1) (with_leg rows (key_of series e) leg)
    by None is = subst (λ o. AreFilled series log h (i + 1) (with_leg rows o leg)) (sym is) (nothing is)
    by (Some n) is = subst (λ o. AreFilled series log h (i + 1) (with_leg rows o leg)) (sym is) (something n is (sym (ap (is_free rows) is) ∙ free))

-- a stream is over, and the next begins
pub stream_filled : (series : Series) (log : Log) (h : ℕ) (t : List Entry) (rows : List (List (Option Leg))) → slice_get log.streams h ≡ Some t
    → AreFilled series log h (length t) rows → AreFilled series log (h + 1) 0 rows
stream_filled series log h t rows got filled = record {
  width = filled.width;
  sizes = filled.sizes;
  stands = λ p x m before there key. filled.stands p x m (back p x before there) there key;
  only = λ p m is. let o = filled.only p m is in (forth (spot_of p) o.0, o.1);
}
  where
    within : (p : Leg) (x : Entry) → p.hart ≡ h → entry_at log p.hart p.entry ≡ Some x → p.entry < length t
    within p x same there =
        slice_get_within t p.entry x (sym (ap (λ o. slice_get (unwrap_or o []) p.entry) got) ∙ ap (λ (g : ℕ). entry_at log g p.entry) (sym same) ∙ there)

    back : (p : Leg) (x : Entry) → IsBefore (spot_of p) (h + 1, 0) → entry_at log p.hart p.entry ≡ Some x → IsBefore (spot_of p) (h, length t)
    back p x before there = elim before [
      | inl l ↦ elim (eq-or-lt_of_le (le_of_suc-le-suc (let m : p.hart < suc h = omega (arith, l) in m))) [
        | inl same ↦ inr (same, within p x same there)
        | inr less ↦ inl less
      ]
      | inr b ↦ absurd (let l = b.1 in omega (arith, l))
    ]

    forth : (p : Spot) → IsBefore p (h, length t) → IsBefore p (h + 1, 0)
    forth p before = elim before [
      | inl l ↦ inl (omega (arith, l))
      | inr b ↦ let same = b.0 in inl (omega (arith, same))
    ]

no_slot : (size k : ℕ) → slot_in (replicate size None) k ≡ None
no_slot zero k = refl
no_slot (suc size) zero = refl
no_slot (suc size) (suc k) = no_slot size k

empty_row : (counts : List ℕ) (n : ℕ × ℕ) → slot (map (λ size. replicate size None) counts) n ≡ None
empty_row counts n = by counts n.0
  where
    by : (counts : List ℕ) (g : ℕ) → slot_in (row_of (map (λ size. replicate size None) counts) g) n.1 ≡ None
    by [] g = refl
    by (size ∷ counts) zero = no_slot size n.1
    by (size ∷ counts) (suc g) = by counts g

row_length : (counts : List ℕ) (g : ℕ) → g < length counts
    → length (row_of (map (λ (size : ℕ). replicate {A = Option Leg} size None) counts) g) ≡ slice_index counts g
row_length [] g l = absurd (omega (arith, l))
row_length (size ∷ counts) zero l = length-replicate size None
row_length (size ∷ counts) (suc g) l = row_length counts g (omega (arith, l))

-- at first nothing stands anywhere
pub none_filled : (series : Series) (log : Log) (counts : List ℕ) → length counts ≡ width_of series log
    → ((g : ℕ) → slice_index counts g ≡ size_of_row series log g) → AreFilled series log 0 0 (map (λ size. replicate size None) counts)
none_filled series log counts width sizes = record {
  width = length-map counts (λ size. replicate size None) ∙ width;
  sizes = λ g l. row_length counts g (subst (λ (z : ℕ). g < z) (length-map counts (λ size. replicate size None)) l) ∙ sizes g;
  stands = λ p x m before there key. absurd (elim before [
    | inl l ↦ omega (arith, l)
    | inr b ↦ let l = b.1 in omega (arith, l)
  ]);
  only = λ p m is. absurd (none-some p (sym (empty_row counts m) ∙ is));
}

pub misplaced_past : (series : Series) (log : Log) (h : ℕ) → misplaced series log (h, length (stream log h)) ≡ false
misplaced_past series log h =
    ap (λ o. is_some_and o (λ e. is_misplaced series log (record { hart = h; place = length (stream log h); entry = e })))
    (slice_get_past (stream log h) (length (stream log h)) (omega arith))
