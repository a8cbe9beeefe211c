-- The times of entries along their ordinals.
use Rattle.std.proofs.Common.{◌≡◌, ℕ, zero, suc, Bool, true, false, cond, not, List, [], ◌∷◌, ◌++◌, flat_map, take, length, Option, Some, None, refl, sym}
use Rattle.std.proofs.Common.{ap, ◌∙◌, subst, inl, inr, arith, find, append_assoc}
use Rattle.std.specs.Prelude.{◌&&◌, ◌||◌, nat_lt, option_map, slice_get, unwrap_or}
use Rattle.std.specs.List.{list_any, list_all}
use Rattle.std.proofs.Math.Path.{fun_ext}
use Rattle.std.proofs.lemmas.Bool.{or_parts, eqb-true, eq-eqb, false_from_ne_true, true≢false}
use Rattle.std.proofs.lemmas.Option.{none-some, same_Some, slice_get_within}
use Rattle.log_entry.specs.declared.log.Entry.{Entry}
use Rattle.log_entry.specs.declared.log.Log.{Log}
use Rattle.log_entry.specs.Parts.{is_some_and, ordinal_of, time_of}
use Rattle.order_rules.specs.Places.{Placed, entry_at, placed, stream, is_number}
use Rattle.order_rules.specs.Rules.{is_misnumbered, with_ordinal, time_before, time_falls, ordinals_are_right, breaks_o8}
use Rattle.order_rules.specs.Orderly.{Spot, spots, at_entry, o8}
use Rattle.order_rules.specs.Laws.{IsBefore, IsSpot}
use Rattle.order_rules.proofs.Least.{first_is_least}
use Rattle.order_rules.proofs.Numbers.{in_stream, below_length}
use Rattle.log_order.specs.declared.orderly.Leg.{Leg}
use Rattle.log_order.specs.declared.series.Series.TheVariants.{Ordinals}
use Rattle.log_order.specs.Rows.{key_of, slot, spot_of, is_misplaced, misplaced, AreFilled}
use Rattle.log_order.proofs.Earlier.{none_earlier}
use Rattle.log_order.proofs.Misplacement.{ordinals_misplace}
use Rattle.log_order.proofs.Everywhere.{all_placed, at_placed}

-- the first entry that passes
module _ (f : Entry → Bool) where
  found_in_row : (s : List Entry) (i : ℕ) (e : Entry) (rest : List Entry) → slice_get s i ≡ Some e → list_any f (take i s) ≡ false → f e ≡ true
      → find f (s ++ rest) ≡ Some e
  found_in_row [] i e rest at none t = absurd (none-some _ at)
  found_in_row (x ∷ s) zero e rest at none t = (let same = same_Some x e at in ap (λ b. cond b (Some x) (find f (s ++ rest))) (ap f same ∙ t) ∙ ap Some same)
  found_in_row (x ∷ s) (suc i) e rest at none t =
      let both = or_parts (f x) (list_any f (take i s)) none in
      ap (λ b. cond b (Some x) (find f (s ++ rest))) both.0 ∙ found_in_row s i e rest at both.1 t

  passed_row : (s more rest : List Entry) → list_any f (s ++ more) ≡ false → (find f (s ++ rest) ≡ find f rest) × (list_any f more ≡ false)
  passed_row [] more rest none = (refl, none)
  passed_row (x ∷ s) more rest none =
      let both = or_parts (f x) (list_any f (s ++ more)) none in
      let later = passed_row s more rest both.1 in
      (ap (λ b. cond b (Some x) (find f (s ++ rest))) both.0 ∙ later.0, later.1)

  pub found_of_all : (streams : List (List Entry)) (h i : ℕ) (s : List Entry) (e : Entry) → slice_get streams h ≡ Some s → slice_get s i ≡ Some e
      → list_any f (flat_map (λ z. z) (take h streams) ++ take i s) ≡ false → f e ≡ true → find f (flat_map (λ z. z) streams) ≡ Some e
  found_of_all [] h i s e there at none t = absurd (none-some _ there)
  found_of_all (x ∷ streams) zero i s e there at none t =
      let same : x ≡ s = same_Some _ _ there in
      found_in_row x i e (flat_map (λ z. z) streams) (ap (λ z. slice_get z i) same ∙ at) (ap (λ z. list_any f (take i z)) same ∙ none) t
  found_of_all (x ∷ streams) (suc h) i s e there at none t =
      let regrouped : list_any f (x ++ (flat_map (λ z. z) (take h streams) ++ take i s)) ≡ false =
      ap (list_any f) (sym (append_assoc x (flat_map (λ z. z) (take h streams)) (take i s))) ∙ none in
      let both = passed_row x (flat_map (λ z. z) (take h streams) ++ take i s) (flat_map (λ z. z) streams) regrouped in
      both.0 ∙ found_of_all streams h i s e there at both.1 t

  not_in_row : (s rest : List Entry) → ((i : ℕ) (e : Entry) → slice_get s i ≡ Some e → f e ≡ false) → find f (s ++ rest) ≡ find f rest
  not_in_row [] rest h = refl
  not_in_row (x ∷ s) rest h = ap (λ b. cond b (Some x) (find f (s ++ rest))) (h 0 x refl) ∙ not_in_row s rest (λ i e at. h (suc i) e at)

  pub none_of_all : (streams : List (List Entry))
      → ((h i : ℕ) (s : List Entry) (e : Entry) → slice_get streams h ≡ Some s → slice_get s i ≡ Some e → f e ≡ false)
      → find f (flat_map (λ z. z) streams) ≡ None
  none_of_all [] h = refl
  none_of_all (x ∷ streams) h =
      not_in_row x (flat_map (λ z. z) streams) (λ i e at. h 0 i x e refl at) ∙ none_of_all streams (λ g i s e there at. h (suc g) i s e there at)

ordinal_from_key : (e : Entry) (k : ℕ) → key_of Ordinals e ≡ Some (0, k) → ordinal_of e ≡ Some k
ordinal_from_key e k is = by (ordinal_of e) is
  where
    by : (o : Option ℕ) → option_map {U = ℕ × ℕ} (λ k. (0, k)) o ≡ Some (0, k) → o ≡ Some k
    by None is = absurd (none-some _ is)
    by (Some n) is = ap (λ (z : ℕ × ℕ). Some z.1) (same_Some _ _ is)

ordinal_from_test : (e : Entry) (k : ℕ) → is_number k (ordinal_of e) ≡ true → ordinal_of e ≡ Some k
ordinal_from_test e k t = by (ordinal_of e) t
  where
    by : (o : Option ℕ) → is_number k o ≡ true → o ≡ Some k
    by None t = absurd (true≢false (sym t))
    by (Some n) t = ap Some (eqb-true n k t)

is_that : (e : Entry) (k : ℕ) → ordinal_of e ≡ Some k → is_number k (ordinal_of e) ≡ true
is_that e k is = ap (is_number k) is ∙ eq-eqb k k refl

before_not_same : (p : Spot) → IsBefore p p → ⊥
before_not_same p before = elim before [
  | inl l ↦ omega (arith, l)
  | inr b ↦ let l = b.1 in omega (arith, l)
]

module _ (log : Log) (rows : List (List (Option Leg))) (filled : AreFilled Ordinals log (length log.streams) 0 rows) where
  its_slot : (h i : ℕ) (e : Entry) (k : ℕ) → entry_at log h i ≡ Some e → ordinal_of e ≡ Some k → slot rows (0, k) ≡ Some (record { hart = h; entry = i })
  its_slot h i e k at is =
      filled.stands (record { hart = h; entry = i }) e (0, k) (inl (slice_get_within log.streams h (stream log h) (in_stream log h i e at))) at
      (ap (option_map {U = ℕ × ℕ} (λ k. (0, k))) is)

  pub ordinal_there : (k : ℕ) (leg : Leg) (e : Entry) → slot rows (0, k) ≡ Some leg → entry_at log leg.hart leg.entry ≡ Some e
      → (ordinal_of e ≡ Some k) × (with_ordinal log k ≡ Some e)
  ordinal_there k leg e is at =
      let o = filled.only leg (0, k) is in
      let key : key_of Ordinals e ≡ Some (0, k) = ap (key_of Ordinals) (same_Some e o.1.0 (sym at ∙ o.1.1)) ∙ o.1.2 in
      let own = ordinal_from_key e k key in (
        own,
        found_of_all (λ z. is_number k (ordinal_of z)) log.streams leg.hart leg.entry (stream log leg.hart) e (in_stream log leg.hart leg.entry e at) at
            (none_earlier (λ z. is_number k (ordinal_of z)) log (record { hart = leg.hart; place = leg.entry; entry = e })
            (λ q x before there. false_from_ne_true (is_number k (ordinal_of x)) (λ t.
            let same : record { hart = q.0; entry = q.1 } ≡ leg = same_Some _ _ (sym (its_slot q.0 q.1 x k there (ordinal_from_test x k t)) ∙ is) in
            before_not_same (spot_of leg) (subst (λ (z : Leg). IsBefore (spot_of z) (spot_of leg)) same before))))
            (is_that e k own),
      )

  pub no_ordinal : (k : ℕ) → slot rows (0, k) ≡ None → with_ordinal log k ≡ None
  no_ordinal k is = none_of_all (λ z. is_number k (ordinal_of z)) log.streams (λ h i s e there at. false_from_ne_true (is_number k (ordinal_of e)) (λ t.
      none-some _ (sym is ∙ its_slot h i e k (ap (λ o. slice_get (unwrap_or o []) i) there ∙ at) (ordinal_from_test e k t))))

right_where_none : (log : Log) → find (misplaced Ordinals log) (spots log) ≡ None → ordinals_are_right log ≡ true
right_where_none log none =
    ap (λ test. list_all (λ x. not (test x)) (placed log)) (ordinals_misplace log) ∙ all_placed (λ x. not (is_misplaced Ordinals log x)) log (λ h i e at.
    let spot : IsSpot log.streams (h, i) = (stream log h, in_stream log h i e at, below_length (stream log h) i e at) in
    ap not (sym (ap (λ o. is_some_and o (λ z. is_misplaced Ordinals log (record { hart = h; place = i; entry = z }))) at)
    ∙ first_is_least.none log (misplaced Ordinals log) (h, i) none spot))

stands_at : (log : Log) (test : Placed → Bool) (q : Spot) → at_entry test log q ≡ true
    → (e : Entry) × ((entry_at log q.0 q.1 ≡ Some e) × (test (record { hart = q.0; place = q.1; entry = e }) ≡ true))
stands_at log test q t = by (entry_at log q.0 q.1) refl t
  where
    by : (o : Option Entry) → entry_at log q.0 q.1 ≡ o → is_some_and o (λ e. test (record { hart = q.0; place = q.1; entry = e })) ≡ true
        → (e : Entry) × ((entry_at log q.0 q.1 ≡ Some e) × (test (record { hart = q.0; place = q.1; entry = e }) ≡ true))
    by None is t = absurd (true≢false (sym t))
    by (Some e) is t = (e, (is, t))

wrong_where_found : (log : Log) (p : Spot) → find (misplaced Ordinals log) (spots log) ≡ Some p → ordinals_are_right log ≡ false
wrong_where_found log p found = false_from_ne_true (ordinals_are_right log) (λ right.
    let least = first_is_least.found log (misplaced Ordinals log) p found in
    let e = stands_at log (is_misplaced Ordinals log) p least.passes in
    let ok = at_placed (λ x. not (is_misplaced Ordinals log x)) log p.0 p.1 e.0 e.1.0
    (sym (ap (λ test. list_all (λ x. not (test x)) (placed log)) (ordinals_misplace log)) ∙ right) in
    true≢false (sym ok ∙ ap not e.1.1))

or_false : (b : Bool) → (b || false) ≡ b
or_false true = refl
or_false false = refl

-- where an ordinal is wrong, the least such entry breaks O8 first
pub o8_where_wrong : (log : Log) (p : Spot) → find (misplaced Ordinals log) (spots log) ≡ Some p → find (o8 log) (spots log) ≡ Some p
o8_where_wrong log p found = ap (λ test. find (at_entry test log) (spots log)) (fun_ext (λ (x : Placed).
    ap (λ b. is_misnumbered ordinal_of log x || (b && time_falls log x.entry)) (wrong_where_found log p found)
    ∙ or_false (is_misnumbered ordinal_of log x)
    ∙ ap (λ test. test x) (ordinals_misplace log))) ∙ found

-- else its time alone tells
pub o8_where_right : (log : Log) (h i k last : ℕ) (e : Entry) → find (misplaced Ordinals log) (spots log) ≡ None → entry_at log h i ≡ Some e
    → ordinal_of e ≡ Some k → last ≡ time_before log k
    → o8 log (h, i) ≡ is_some_and (time_of e) (λ time. nat_lt time last)
o8_where_right log h i k last e none at is same =
    let x : Placed = record { hart = h; place = i; entry = e } in
    let spot : IsSpot log.streams (h, i) = (stream log h, in_stream log h i e at, below_length (stream log h) i e at) in
    let own : is_misnumbered ordinal_of log x ≡ false = ap (λ test. test x) (ordinals_misplace log)
    ∙ sym (ap (λ o. is_some_and o (λ z. is_misplaced Ordinals log (record { hart = h; place = i; entry = z }))) at)
    ∙ first_is_least.none log (misplaced Ordinals log) (h, i) none spot in
    ap (λ o. is_some_and o (λ z. breaks_o8 log (record { hart = h; place = i; entry = z }))) at
    ∙ ap (λ b. b || (ordinals_are_right log && time_falls log e)) own
    ∙ ap (λ b. false || (b && time_falls log e)) (right_where_none log none)
    ∙ ap (λ o. is_some_and (time_of e) (λ time. is_some_and o (λ k. nat_lt time (time_before log k)))) is
    ∙ ap (λ (t : ℕ). is_some_and (time_of e) (λ time. nat_lt time t)) (sym same)

numbered_where_timed : (e : Entry) (log : Log) → time_falls log e ≡ true → (k : ℕ) × (ordinal_of e ≡ Some k)
numbered_where_timed e log t = by (time_of e) t
  where
    inner : (o : Option ℕ) (time : ℕ) → ordinal_of e ≡ o → is_some_and o (λ k. nat_lt time (time_before log k)) ≡ true → (k : ℕ) × (ordinal_of e ≡ Some k)
    inner None time is t = absurd (true≢false (sym t))
    inner (Some k) time is t = (k, is)

    by : (o : Option ℕ) → is_some_and o (λ time. is_some_and (ordinal_of e) (λ k. nat_lt time (time_before log k))) ≡ true → (k : ℕ) × (ordinal_of e ≡ Some k)
    by None t = absurd (true≢false (sym t))
    by (Some time) t = inner (ordinal_of e) time refl t

-- what breaks O8 has an ordinal
pub of_an_ordinal : (log : Log) (q : Spot) → find (misplaced Ordinals log) (spots log) ≡ None → o8 log q ≡ true
    → (e : Entry) × ((k : ℕ) × (entry_at log q.0 q.1 ≡ Some e) × (ordinal_of e ≡ Some k))
of_an_ordinal log q none t =
    let s = stands_at log (breaks_o8 log) q t in
    let x : Placed = record { hart = q.0; place = q.1; entry = s.0 } in
    let spot : IsSpot log.streams q = (stream log q.0, in_stream log q.0 q.1 s.0 s.1.0, below_length (stream log q.0) q.1 s.0 s.1.0) in
    let own : is_misnumbered ordinal_of log x ≡ false = ap (λ test. test x) (ordinals_misplace log)
    ∙ sym (ap (λ o. is_some_and o (λ z. is_misplaced Ordinals log (record { hart = q.0; place = q.1; entry = z }))) s.1.0)
    ∙ first_is_least.none log (misplaced Ordinals log) q none spot in
    let falls : time_falls log s.0 ≡ true =
    sym (ap (λ b. b || (ordinals_are_right log && time_falls log s.0)) own ∙ ap (λ b. false || (b && time_falls log s.0)) (right_where_none log none))
    ∙ s.1.1 in
    let k = numbered_where_timed s.0 log falls in
    (s.0, (k.0, s.1.0, k.1))
