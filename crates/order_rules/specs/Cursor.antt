-- How far a log has been taken, and which entry may be taken next.
use Rattle.std.specs.Prelude.{ℕ, ◌==◌, ◌+◌, Bool, true, List, find, length, replicate, slice_get, slice_index, slice_set, Option, Some, None, is_some}
use Rattle.std.specs.Prelude.{option_map, option_and_then, if◌then◌else◌}
use Rattle.orders_law.specs.Orders.{IsLeast}
use Rattle.log_entry.specs.declared.log.Entry.{Entry}
use Rattle.log_entry.specs.declared.log.Entry.TheVariants.{Gain, Yield, Poll, Touch, End}
use Rattle.log_entry.specs.declared.log.Log.{Log}
use Rattle.log_entry.specs.Parts.{units_of}
use Rattle.order_rules.specs.Places.{harts, entry_at, is_number}

-- the place in each stream, the next number of each page, the next ordinal
pub record Cursor : Type 0 where
  pub places : List ℕ
  pub numbers : List ℕ
  pub ordinal : ℕ

abbrev pub start : Log → Cursor
start log = record { places = replicate (length log.streams) 0; numbers = replicate (units_of log) 0; ordinal = 0 }

-- the first entry of a hart that isn't taken
abbrev pub first_left : Log → Cursor → ℕ → Option Entry
first_left log c h = entry_at log h (slice_index c.places h)

-- a Gain or Yield has its page's next number, a Poll or Touch the next ordinal; an End has no guard
abbrev pub guard_is_met : Cursor → Entry → Bool
guard_is_met c (Gain count page seq mode waits) = is_number seq (slice_get c.numbers page)
guard_is_met c (Yield count page seq left) = is_number seq (slice_get c.numbers page)
guard_is_met c (Poll count ord time bits) = ord == c.ordinal
guard_is_met c (Touch count ord input) = ord == c.ordinal
guard_is_met c (End count) = true

-- the next number or ordinal, once an entry is taken
abbrev pub counted : Cursor → Entry → Cursor
counted c (Gain count page seq mode waits) = record c { numbers = slice_set c.numbers page (seq + 1) }
counted c (Yield count page seq left) = record c { numbers = slice_set c.numbers page (seq + 1) }
counted c (Poll count ord time bits) = record c { ordinal = ord + 1 }
counted c (Touch count ord input) = record c { ordinal = ord + 1 }
counted c (End count) = c

-- the cursor once the first entry left of a hart is taken
abbrev pub taken : Cursor → ℕ → Entry → Cursor
taken c h e = record (counted c e) { places = slice_set c.places h (slice_index c.places h + 1) }

-- a hart takes its first entry left, where its guard is met; the move is the entry's place
abbrev pub take_one : Log → ℕ → Cursor → Option (Cursor × ℕ)
take_one log h c = option_and_then (λ e. if guard_is_met c e then Some (taken c h e, slice_index c.places h) else None) (first_left log c h)

-- the least hart with an entry left, and the place of that entry
abbrev pub least_left : Log → Cursor → Option (ℕ × ℕ)
least_left log c = option_map (λ h. (h, slice_index c.places h)) (find (λ h. is_some (first_left log c h)) (harts log))

-- the least order of a log takes these entries, each by its hart and place, and leads there
abbrev pub IsLeastOrder : Log → List (ℕ × ℕ) → Cursor → Type 0
IsLeastOrder log legs c = IsLeast (take_one log) (length log.streams) (start log) legs c
