-- The entries of a log by their numbers.
use Rattle.std.specs.Prelude.{ℕ, ◌≡◌, ◌<◌, ◌==◌, ◌&&◌, ◌||◌, not, nat_lt, nat_le, Bool, true, List, [], length, count_by, slice_get, slice_set, Option, Some}
use Rattle.std.specs.Prelude.{None, is_some, option_map, option_and_then}
use Rattle.std.specs.List.{list_any, slice_index_or}
use Rattle.log_entry.specs.declared.log.Entry.{Entry}
use Rattle.log_entry.specs.declared.log.Log.{Log}
use Rattle.log_entry.specs.Parts.{page_number, ordinal_of, units_of, is_some_and}
use Rattle.order_rules.specs.Places.{Placed, entry_at, entries, earlier}
use Rattle.order_rules.specs.Orderly.{Spot, at_entry}
use Rattle.order_rules.specs.Laws.{IsBefore}
use Rattle.log_order.specs.declared.orderly.Leg.{Leg}
use Rattle.log_order.specs.declared.series.Series.{Series}
use Rattle.log_order.specs.declared.series.Series.TheVariants.{Pages, Ordinals}

-- the row of an entry and its number there: each page is a row, and the ordinals are one
abbrev pub key_of : Series → Entry → Option (ℕ × ℕ)
key_of Pages e = page_number e
key_of Ordinals e = option_map (λ k. (0, k)) (ordinal_of e)

abbrev pub width_of : Series → Log → ℕ
width_of Pages log = units_of log
width_of Ordinals log = 1

abbrev pub is_in_row : Series → ℕ → Entry → Bool
is_in_row series row e = is_some_and (key_of series e) (λ x. x.0 == row)

abbrev pub has_key : Series → ℕ × ℕ → Entry → Bool
has_key series n e = is_some_and (key_of series e) (λ x. (x.0 == n.0) && (x.1 == n.1))

abbrev pub size_of_row : Series → Log → ℕ → ℕ
size_of_row series log row = count_by (is_in_row series row) (entries log)

-- its number isn't below its row's size, or stands already earlier
abbrev pub is_misplaced : Series → Log → Placed → Bool
is_misplaced series log x = is_some_and (key_of series x.entry) (λ n. nat_le (size_of_row series log n.0) n.1 || list_any (has_key series n) (earlier log x))

abbrev pub misplaced : Series → Log → Spot → Bool
misplaced series log = at_entry (is_misplaced series log) log

abbrev pub slot_in : List (Option Leg) → ℕ → Option Leg
slot_in row k = option_and_then (λ o. o) (slice_get row k)

abbrev pub row_of : List (List (Option Leg)) → ℕ → List (Option Leg)
row_of rows g = slice_index_or rows g []

abbrev pub slot : List (List (Option Leg)) → ℕ × ℕ → Option Leg
slot rows n = slot_in (row_of rows n.0) n.1

-- there is a place for the number, and nothing stands there
abbrev pub is_free_in : List (Option Leg) → ℕ → Bool
is_free_in row k = nat_lt k (length row) && not (is_some (slot_in row k))

abbrev pub is_free : List (List (Option Leg)) → Option (ℕ × ℕ) → Bool
is_free rows None = true
is_free rows (Some n) = is_free_in (row_of rows n.0) n.1

abbrev pub with_leg : List (List (Option Leg)) → Option (ℕ × ℕ) → Leg → List (List (Option Leg))
with_leg rows None leg = rows
with_leg rows (Some n) leg = slice_set rows n.0 (slice_set (row_of rows n.0) n.1 (Some leg))

abbrev pub spot_of : Leg → Spot
spot_of leg = (leg.hart, leg.entry)

-- each entry's row is below this
abbrev pub RowsBelow : Series → Log → ℕ → Type 0
RowsBelow series log width = (h i : ℕ) (e : Entry) (n : ℕ × ℕ) → entry_at log h i ≡ Some e → key_of series e ≡ Some n → n.0 < width

-- the entries before a spot stand in their slots, and nothing else does
pub record AreFilled (series : Series) (log : Log) (h i : ℕ) (rows : List (List (Option Leg))) : Type 0 where
  pub width : length rows ≡ width_of series log
  pub sizes : (g : ℕ) → g < length rows → length (row_of rows g) ≡ size_of_row series log g
  pub stands : (p : Leg) (e : Entry) (n : ℕ × ℕ) → IsBefore (spot_of p) (h, i) → entry_at log p.hart p.entry ≡ Some e → key_of series e ≡ Some n
      → slot rows n ≡ Some p
  pub only : (p : Leg) (n : ℕ × ℕ) → slot rows n ≡ Some p
      → IsBefore (spot_of p) (h, i) × ((e : Entry) × (entry_at log p.hart p.entry ≡ Some e) × (key_of series e ≡ Some n))
