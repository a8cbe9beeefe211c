-- The first of the spots that passes a test is the least.
use Rattle.std.proofs.Common.{◌≡◌, ℕ, zero, suc, ◌+◌, ◌<◌, Bool, true, false, cond, List, [], ◌∷◌, map, flat_map, length, Option, Some, None, find, ◌⊎◌}
use Rattle.std.proofs.Common.{eq-or-lt_of_le, le_of_suc-le-suc, zero-add, true≢false, refl, sym, ap, ◌∙◌, subst, inl, inr, arith}
use Rattle.std.specs.Option.{option_or}
use Rattle.std.specs.List.{enumerate_from}
use Rattle.std.proofs.lemmas.Option.{none-some, same_Some}
use Rattle.std.proofs.lemmas.List.Folds.{find-append}
use Rattle.std.proofs.lemmas.List.{map-append}
use Rattle.shared_types.proofs.Lists.{neither_there, not_found}
use Rattle.log_entry.specs.declared.log.Entry.{Entry}
use Rattle.log_entry.specs.declared.log.Log.{Log}
use Rattle.orders_law.specs.Orders.{below}
use Rattle.order_rules.specs.Orderly.{Spot, spots}
use Rattle.order_rules.specs.Laws.{IsSpot, IsBefore, IsLeastSpot, FirstIsLeast}

-- the first of two, or the second where the first isn't there
pub data Either {X : Type 0} (a b : Option X) (p : X) : Type 0 where
  left : a ≡ Some p → Either a b p
  right : a ≡ None → b ≡ Some p → Either a b p

either : {X : Type 0} (a b : Option X) (p : X) → option_or a b ≡ Some p → Either a b p
either None b p e = right refl e
either (Some x) b p e = left e

found_one : {X : Type 0} (b : Bool) (x p : X) → cond b (Some x) None ≡ Some p → (b ≡ true) × (x ≡ p)
found_one true x p e = (refl, same_Some _ _ e)
found_one false x p e = absurd (none-some p e)

eq_or_below : (i m : ℕ) → i < suc m → (i ≡ m) ⊎ (i < m)
eq_or_below i m l = eq-or-lt_of_le (le_of_suc-le-suc l)

module _ (test : Spot → Bool) where
  row : ℕ → ℕ → List Spot
  row k m = map (λ i. (k, i)) (below m)

  row-suc : (k m : ℕ) → find test (row k (suc m)) ≡ option_or (find test (row k m)) (cond (test (k, m)) (Some (k, m)) None)
  unfolding row
  row-suc k m = ap (find test) (map-append (λ i. (k, i)) (below m) (m ∷ [])) ∙ find-append test (row k m) ((k, m) ∷ [])

  none_in_row : (k m : ℕ) → find test (row k m) ≡ None → (i : ℕ) → i < m → test (k, i) ≡ false
  none_in_row k zero e i l = absurd (omega arith)
  none_in_row k (suc m) e i l =
      let both = neither_there (find test (row k m)) (cond (test (k, m)) (Some (k, m)) None) (sym (row-suc k m) ∙ e) in
      elim (eq_or_below i m l) [
        | inl same ↦ subst (λ j. test (k, j) ≡ false) (sym same) (not_found (test (k, m)) (k, m) both.1)
        | inr less ↦ none_in_row k m both.0 i less
      ]

  -- what was found in a row
  pub record InRow (k m : ℕ) (p : Spot) : Type 0 where
    pub hart : p.0 ≡ k
    pub place : p.1 < m
    pub passes : test p ≡ true
    pub least : (i : ℕ) → i < p.1 → test (k, i) ≡ false

  some_in_row : (k m : ℕ) (p : Spot) → find test (row k m) ≡ Some p → InRow k m p
  unfolding row
  some_in_row k zero p e = absurd (none-some p e)
  some_in_row k (suc m) p e = elim (either (find test (row k m)) (cond (test (k, m)) (Some (k, m)) None) p (sym (row-suc k m) ∙ e)) [
    | left f ↦ let r = some_in_row k m p f in let l = r.place in record { hart = r.hart; place = omega (arith, l); passes = r.passes; least = r.least }
    | right n f ↦
        let o = found_one (test (k, m)) (k, m) p f in
        let place : m ≡ p.1 = ap (λ (z : Spot). z.1) o.1 in
        record {
          hart = sym (ap (λ (z : Spot). z.0) o.1);
          place = omega (arith, place);
          passes = subst (λ (z : Spot). test z ≡ true) o.1 o.0;
          least = λ i l. none_in_row k m n i (omega (arith, place, l));
        }
  ]

  spots_from : ℕ → List (List Entry) → List Spot
  spots_from n streams = flat_map (λ s. map (λ i. (s.0, i)) (below (length s.1 + 1))) (enumerate_from n streams)

  spots-cons : (n : ℕ) (s : List Entry) (streams : List (List Entry))
      → find test (spots_from n (s ∷ streams)) ≡ option_or (find test (row n (length s + 1))) (find test (spots_from (n + 1) streams))
  unfolding row spots_from
  spots-cons n s streams = find-append test (row n (length s + 1)) (spots_from (n + 1) streams)

  none_from : (n : ℕ) (streams : List (List Entry)) → find test (spots_from n streams) ≡ None → (h i : ℕ) → IsSpot streams (h, i) → test (n + h, i) ≡ false
  none_from n [] e h i spot = absurd (none-some _ spot.1)
  none_from n (s ∷ streams) e zero i spot =
      let both = neither_there (find test (row n (length s + 1))) (find test (spots_from (n + 1) streams)) (sym (spots-cons n s streams) ∙ e) in
      let same : s ≡ spot.0 = same_Some _ _ spot.1 in
      let within : i < length s + 1 = subst (λ (z : List Entry). i < length z + 1) (sym same) spot.2 in
      let e' : n ≡ n + 0 = omega arith in
      subst (λ k. test (k, i) ≡ false) e' (none_in_row n (length s + 1) both.0 i within)
  none_from n (s ∷ streams) e (suc h) i spot =
      let both = neither_there (find test (row n (length s + 1))) (find test (spots_from (n + 1) streams)) (sym (spots-cons n s streams) ∙ e) in
      let e' : (n + 1) + h ≡ n + suc h = omega arith in
      subst (λ k. test (k, i) ≡ false) e' (none_from (n + 1) streams both.1 h i spot)

  -- what was found in the streams from a hart on
  pub record InStreams (n : ℕ) (streams : List (List Entry)) (p : Spot) : Type 0 where
    pub hart : ℕ
    pub same : n + hart ≡ p.0
    pub spot : IsSpot streams (hart, p.1)
    pub passes : test p ≡ true
    pub least : (g i : ℕ) → IsSpot streams (g, i) → IsBefore (g, i) (hart, p.1) → test (n + g, i) ≡ false

  some_from : (n : ℕ) (streams : List (List Entry)) (p : Spot) → find test (spots_from n streams) ≡ Some p → InStreams n streams p
  unfolding spots_from
  some_from n [] p e = absurd (none-some p e)
  some_from n (s ∷ streams) p e =
      elim (either (find test (row n (length s + 1))) (find test (spots_from (n + 1) streams)) p (sym (spots-cons n s streams) ∙ e)) [
        | left f ↦
            let r = some_in_row n (length s + 1) p f in
            let hart = r.hart in
            record { hart = 0; same = omega (arith, hart); spot = (s, refl, r.place); passes = r.passes; least = first_row n s streams p r }
        | right none f ↦
            let r = some_from (n + 1) streams p f in
            let same = r.same in
            record { hart = suc r.hart; same = omega (arith, same); spot = r.spot; passes = r.passes; least = later_row n s streams p none r }
      ]
    where
      first_row : (n : ℕ) (s : List Entry) (streams : List (List Entry)) (p : Spot) → InRow n (length s + 1) p → (g i : ℕ) → IsSpot (s ∷ streams) (g, i)
          → IsBefore (g, i) (0, p.1) → test (n + g, i) ≡ false
      first_row n s streams p r g i spot (inl l) = absurd (omega (arith, l))
      first_row n s streams p r g i spot (inr (same, l)) = let e' : n ≡ n + g = omega (arith, same) in subst (λ k. test (k, i) ≡ false) e' (r.least i l)

      later_row : (n : ℕ) (s : List Entry) (streams : List (List Entry)) (p : Spot) → find test (row n (length s + 1)) ≡ None
          → (r : InStreams (n + 1) streams p) → (g i : ℕ) → IsSpot (s ∷ streams) (g, i) → IsBefore (g, i) (suc r.hart, p.1) → test (n + g, i) ≡ false
      later_row n s streams p none r zero i spot b =
          let same : s ≡ spot.0 = same_Some _ _ spot.1 in
          let within : i < length s + 1 = subst (λ (z : List Entry). i < length z + 1) (sym same) spot.2 in
          let e' : n ≡ n + 0 = omega arith in
          subst (λ k. test (k, i) ≡ false) e' (none_in_row n (length s + 1) none i within)
      later_row n s streams p none r (suc g) i spot (inl l) = let e' : (n + 1) + g ≡ n + suc g = omega arith in
          subst (λ k. test (k, i) ≡ false) e' (r.least g i spot (inl (omega (arith, l))))
      later_row n s streams p none r (suc g) i spot (inr (same, l)) = let e' : (n + 1) + g ≡ n + suc g = omega arith in
          subst (λ k. test (k, i) ≡ false) e' (r.least g i spot (inr (omega (arith, same), l)))

found_least : (log : Log) (test : Spot → Bool) (p : Spot) → find test (spots log) ≡ Some p → IsLeastSpot log.streams test p
unfolding spots_from
found_least log test p e =
    let r = some_from test 0 log.streams p e in
    let hart : r.hart ≡ p.0 = sym (zero-add r.hart) ∙ r.same in
    record {
      spot = subst (λ h. IsSpot log.streams (h, p.1)) hart r.spot;
      passes = r.passes;
      least = λ q spot b. subst (λ k. test (k, q.1) ≡ false) (zero-add q.0) (r.least q.0 q.1 spot (subst (λ h. IsBefore q (h, p.1)) (sym hart) b));
    }

pub none_passes : (log : Log) (test : Spot → Bool) (p : Spot) → find test (spots log) ≡ None → IsSpot log.streams p → test p ≡ false
unfolding spots_from
none_passes log test p e spot = subst (λ k. test (k, p.1) ≡ false) (zero-add p.0) (none_from test 0 log.streams e p.0 p.1 spot)

pub data Order (a b : ℕ) : Type 0 where
  less : a < b → Order a b
  equal : a ≡ b → Order a b
  more : b < a → Order a b

trichotomy : (a b : ℕ) → Order a b
trichotomy zero zero = equal refl
trichotomy zero (suc b) = less (omega arith)
trichotomy (suc a) zero = more (omega arith)
trichotomy (suc a) (suc b) = elim (trichotomy a b) [
  | less l ↦ less (omega (arith, l))
  | equal e ↦ equal (ap suc e)
  | more l ↦ more (omega (arith, l))
]

-- of two spots one is before the other, or they are one
pub data Compared (p q : Spot) : Type 0 where
  before : IsBefore p q → Compared p q
  same : p ≡ q → Compared p q
  after : IsBefore q p → Compared p q

compared : (p q : Spot) → Compared p q
compared p q = elim (trichotomy p.0 q.0) [
  | less l ↦ before (inl l)
  | more l ↦ after (inl l)
  | equal e ↦ elim (trichotomy p.1 q.1) [
    | less l ↦ before (inr (e, l))
    | more l ↦ after (inr (sym e, l))
    | equal e' ↦ same (λ i. (e i, e' i))
  ]
]

false_true : {P : Type 0} (b : Bool) → b ≡ false → b ≡ true → P
false_true b f t = absurd (true≢false (sym t ∙ f))

first_found : (log : Log) (test : Spot → Bool) (p : Spot) → IsLeastSpot log.streams test p → find test (spots log) ≡ Some p
first_found log test p l = by (find test (spots log)) refl
  where
    by : (o : Option Spot) → find test (spots log) ≡ o → find test (spots log) ≡ Some p
    by None e = false_true (test p) (none_passes log test p e l.spot) l.passes
    by (Some q) e =
        let r = found_least log test q e in
        elim (compared p q) [
          | before b ↦ false_true (test p) (r.least p l.spot b) l.passes
          | same s ↦ e ∙ ap Some (sym s)
          | after b ↦ false_true (test q) (l.least q r.spot b) r.passes
        ]

not_first : (log : Log) (test : Spot → Bool) → ((p : Spot) → IsSpot log.streams p → test p ≡ false) → find test (spots log) ≡ None
not_first log test none = by (find test (spots log)) refl
  where
    by : (o : Option Spot) → find test (spots log) ≡ o → find test (spots log) ≡ None
    by None e = e
    by (Some q) e = let r = found_least log test q e in false_true (test q) (none q r.spot) r.passes

pub first_is_least : FirstIsLeast
first_is_least = record { found = found_least; none = none_passes; first = first_found; no_first = not_first }
