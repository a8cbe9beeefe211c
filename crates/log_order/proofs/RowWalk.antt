-- The entries of a row, seen one number after the other.
use Rattle.std.proofs.Common.{◌≡◌, ℕ, zero, suc, ◌+◌, ◌<◌, ◌≤◌, List, [], ◌∷◌, length, get_or, Option, Some, None, refl, sym, ap, ◌∙◌, subst, inl, inr, ◌⊎◌}
use Rattle.std.proofs.Common.{arith, eq-or-lt_of_le, le_of_suc-le-suc}
use Rattle.std.specs.Prelude.{option_and_then}
use Rattle.std.proofs.lemmas.Option.{none-some, same_Some, slice_get_within, slice_get_past, slice_get_read, get_or_from_slice_get}
use Rattle.std.proofs.lemmas.Bool.{cases_lt}
use Rattle.log_entry.specs.declared.log.Entry.{Entry}
use Rattle.log_entry.specs.declared.log.Log.{Log}
use Rattle.order_rules.specs.Places.{entry_at, stream}
use Rattle.order_rules.specs.Orderly.{Spot}
use Rattle.order_rules.proofs.Numbers.{in_stream}
use Rattle.log_order.specs.declared.orderly.Leg.{Leg}
use Rattle.log_order.specs.declared.series.Series.{Series}
use Rattle.log_order.specs.Rows.{key_of, slot, slot_in, row_of, spot_of, AreFilled}
use Rattle.log_order.specs.Least.{IsNumberedBelow}

-- the row as code reads it
pub row_is : (rows : List (List (Option Leg))) (page : ℕ) (row : List (Option Leg)) → page < length rows → row ≡ get_or rows page row → row_of rows page ≡ row
row_is rows page row l is = get_or_from_slice_get rows page row [] (slice_get_read rows (length rows) page row refl l is)

pub ended : (rows : List (List (Option Leg))) (page k size : ℕ) (row : List (Option Leg)) → row_of rows page ≡ row → size ≡ length row → k ≤ size → size ≤ k
    → length (row_of rows page) ≡ k
ended rows page k size row is same a b = (let e = ap length is in omega (arith, e, same, a, b))

pub none_at_first : (series : Series) (log : Log) (q : Spot) → IsNumberedBelow series log 0 0 q → ⊥
none_at_first series log q seen = elim seen.1.3 [
  | inl l ↦ omega (arith, l)
  | inr b ↦ let l = b.1 in omega (arith, l)
]

slot_past : (rows : List (List (Option Leg))) (n : ℕ × ℕ) → length rows ≤ n.0 → slot rows n ≡ None
slot_past rows n le = ap (λ row. slot_in row n.1) (beyond rows n.0 le)
  where
    beyond : (rows : List (List (Option Leg))) (g : ℕ) → length rows ≤ g → row_of rows g ≡ []
    beyond [] g le = refl
    beyond (x ∷ rows) zero le = absurd (omega (arith, le))
    beyond (x ∷ rows) (suc g) le = beyond rows g (omega (arith, le))

slot_late : (rows : List (List (Option Leg))) (n : ℕ × ℕ) → length (row_of rows n.0) ≤ n.1 → slot rows n ≡ None
slot_late rows n le = ap (option_and_then (λ o. o)) (slice_get_past (row_of rows n.0) n.1 le)

split : (n : ℕ × ℕ) (page k : ℕ) → (n.0 < page) ⊎ ((n.0 ≡ page) × (n.1 < k + 1)) → ((n.0 < page) ⊎ ((n.0 ≡ page) × (n.1 < k))) ⊎ ((n.0 ≡ page) × (n.1 ≡ k))
split n page k below = elim below [
  | inl l ↦ inl (inl l)
  | inr b ↦ elim (eq-or-lt_of_le (le_of_suc-le-suc (let l = b.1 in let m : n.1 < suc k = omega (arith, l) in m))) [
    | inl same ↦ inr (b.0, same)
    | inr less ↦ inl (inr (b.0, less))
  ]
]

module _ (series : Series) (log : Log) (rows : List (List (Option Leg))) (filled : AreFilled series log (length log.streams) 0 rows) where
  its_slot : (q : Spot) (e : Entry) (n : ℕ × ℕ) → entry_at log q.0 q.1 ≡ Some e → key_of series e ≡ Some n
      → slot rows n ≡ Some (record { hart = q.0; entry = q.1 })
  its_slot q e n at key =
      filled.stands (record { hart = q.0; entry = q.1 }) e n (inl (slice_get_within log.streams q.0 (stream log q.0) (in_stream log q.0 q.1 e at))) at key

  slot_here : (n : ℕ × ℕ) (page k : ℕ) → n.0 ≡ page → n.1 ≡ k → slot rows n ≡ slot rows (page, k)
  slot_here n page k a b = ap (λ (g : ℕ). slot rows (g, n.1)) a ∙ ap (λ (j : ℕ). slot rows (page, j)) b

  pub seen_next : (page k : ℕ) (leg : Leg) → slot rows (page, k) ≡ Some leg → (q : Spot) → IsNumberedBelow series log page (k + 1) q
      → IsNumberedBelow series log page k q ⊎ (q ≡ spot_of leg)
  seen_next page k leg is q seen = elim (split seen.1.0 page k seen.1.3) [
    | inl b ↦ inl (seen.0, (seen.1.0, seen.1.1, seen.1.2, b))
    | inr b ↦ inr (ap spot_of (same_Some _ _ (sym (its_slot q seen.0 seen.1.0 seen.1.1 seen.1.2) ∙ slot_here seen.1.0 page k b.0 b.1 ∙ is)))
  ]

  pub seen_nothing : (page k : ℕ) → slot rows (page, k) ≡ None → (q : Spot) → IsNumberedBelow series log page (k + 1) q → IsNumberedBelow series log page k q
  seen_nothing page k is q seen = elim (split seen.1.0 page k seen.1.3) [
    | inl b ↦ (seen.0, (seen.1.0, seen.1.1, seen.1.2, b))
    | inr b ↦ absurd (none-some _ (sym is ∙ sym (slot_here seen.1.0 page k b.0 b.1) ∙ its_slot q seen.0 seen.1.0 seen.1.1 seen.1.2))
  ]

  within_row : (q : Spot) (e : Entry) (n : ℕ × ℕ) → entry_at log q.0 q.1 ≡ Some e → key_of series e ≡ Some n → n.1 < length (row_of rows n.0)
  within_row q e n at key = elim (cases_lt n.1 (length (row_of rows n.0))) [
    | inl l ↦ l
    | inr le ↦ absurd (none-some _ (sym (slot_late rows n le) ∙ its_slot q e n at key))
  ]

  pub within_rows : (q : Spot) (e : Entry) (n : ℕ × ℕ) → entry_at log q.0 q.1 ≡ Some e → key_of series e ≡ Some n → n.0 < length rows
  within_rows q e n at key = elim (cases_lt n.0 (length rows)) [
    | inl l ↦ l
    | inr le ↦ absurd (none-some _ (sym (slot_past rows n le) ∙ its_slot q e n at key))
  ]

  -- a row is over
  pub seen_row : (page : ℕ) (q : Spot) → IsNumberedBelow series log (page + 1) 0 q → IsNumberedBelow series log page (length (row_of rows page)) q
  seen_row page q seen = (
    seen.0,
    (
      seen.1.0,
      seen.1.1,
      seen.1.2,
      elim seen.1.3 [
        | inl l ↦ elim (eq-or-lt_of_le (le_of_suc-le-suc (let m : seen.1.0.0 < suc page = omega (arith, l) in m))) [
          | inl same ↦ inr (same, subst (λ (g : ℕ). seen.1.0.1 < length (row_of rows g)) same (within_row q seen.0 seen.1.0 seen.1.1 seen.1.2))
          | inr less ↦ inl less
        ]
        | inr b ↦ absurd (let l = b.1 in omega (arith, l))
      ],
    ),
  )
