-- The least order of an orderly log, as a list of its entries.
use Rattle.std.specs.Prelude.{ℕ, ◌≡◌, not, List, map, filter}
use Rattle.log_entry.specs.declared.log.Log.{Log}
use Rattle.log_entry.specs.Parts.{is_end, is_some_and}
use Rattle.order_rules.specs.Places.{entry_at}
use Rattle.order_rules.specs.Cursor.{Cursor, IsLeastOrder}
use Rattle.log_order.specs.declared.orderly.Leg.{Leg}

-- the entries that the least order takes, without the Ends
abbrev pub AreLeastLegs : Log → List Leg → Type 0
AreLeastLegs log legs = (order : List (ℕ × ℕ)) × ((c : Cursor) × IsLeastOrder log order c
    × (map (λ leg. (leg.hart, leg.entry)) legs ≡ filter (λ p. not (is_some_and (entry_at log p.0 p.1) is_end)) order))
