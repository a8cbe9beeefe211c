-- The least order, one step after the other.
use Rattle.std.specs.Prelude.{ℕ, ◌≡◌, ◌+◌, ◌-◌, List, [], ◌∷◌, length, Option, Some, None}
use Rattle.orders_law.specs.Orders.{least}
use Rattle.log_entry.specs.declared.log.Entry.{Entry}
use Rattle.log_entry.specs.declared.log.Log.{Log}
use Rattle.order_rules.specs.Cursor.{Cursor, take_one}
use Rattle.log_order.specs.declared.orderly.Leg.{Leg}

-- the least hart that can take its first entry left has taken it, or none can
abbrev pub Goes : Log → Cursor → Option Leg → Cursor → Type 0
Goes log old None now = (least (take_one log) (length log.streams) old ≡ None) × (now ≡ old)
Goes log old (Some leg) now = (least (take_one log) (length log.streams) old ≡ Some leg.hart) × (take_one log leg.hart old ≡ Some (now, leg.entry))

-- how many entries are left
abbrev pub left : List (List Entry) → List ℕ → ℕ
left [] places = 0
left (s ∷ streams) [] = 0
left (s ∷ streams) (p ∷ places) = (length s - p) + left streams places
