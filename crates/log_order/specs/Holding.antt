-- What harts hold of a page, and which yields a gain waits for, while the page's entries are taken one by one.
use Rattle.std.specs.Prelude.{ℕ, ◌≡◌, ◌+◌, ◌*◌, ◌<◌, ◌≤◌, ◌++◌, ◌∷◌, ◌==◌, ◌&&◌, ◌||◌, not, nat_le, Bool, false, List, [], filter, length, sum_by, slice_set}
use Rattle.std.specs.Prelude.{Option, Some, None}
use Rattle.std.specs.List.{list_any, slice_index_or}
use lib.Pointwise.{pointwise}
use Rattle.orders_law.specs.Orders.{below}
use Rattle.rv_words.specs.declared.shared.Mode.{Mode}
use Rattle.log_entry.specs.declared.waits.WaitFor.{WaitFor}
use Rattle.log_entry.specs.declared.log.Entry.{Entry}
use Rattle.log_entry.specs.declared.log.Entry.TheVariants.{Gain, Yield}
use Rattle.log_entry.specs.declared.log.Log.{Log}
use Rattle.log_entry.specs.Parts.{holds_then, strength, conflict}
use Rattle.order_rules.specs.Rules.{held, waits_due, same_wait, yields_after}

-- what each hart holds, and the yields since the latest gain
pub record Holding : Type 0 where
  pub holds : List (Option Mode)
  pub yields : List WaitFor

abbrev pub hold_of : List (Option Mode) → ℕ → Option Mode
hold_of holds h = slice_index_or holds h None

abbrev pub conflicts_with_another : List (Option Mode) → ℕ → Mode → Bool
conflicts_with_another holds h mode = list_any (λ g. not (g == h) && conflict (Some mode) (hold_of holds g)) (below (length holds))

abbrev pub holds_wrongly : List (Option Mode) → ℕ → Entry → Bool
holds_wrongly holds h (Gain count page seq mode waits) = nat_le (strength (Some mode)) (strength (hold_of holds h)) || conflicts_with_another holds h mode
holds_wrongly holds h (Yield count page seq left) = nat_le (strength (hold_of holds h)) (strength left)
holds_wrongly holds h _ = false

-- the yields are no more than what has been given back: at most Write by each hart, in two steps
abbrev pub YieldsAreFew : List (Option Mode) → List WaitFor → Type 0
YieldsAreFew holds yields = length yields + sum_by strength holds ≤ 2 * length holds

-- those by other harts
abbrev pub waits_of : List WaitFor → ℕ → List WaitFor
waits_of yields h = filter (λ w. not (w.hart == h)) yields

abbrev pub waits_wrongly : List WaitFor → ℕ → Entry → Bool
waits_wrongly yields h (Gain count page seq mode waits) = not (pointwise same_wait waits.items (waits_of yields h))
waits_wrongly yields h _ = false

-- after an entry of the page by a hart, or where no entry has the number
abbrev pub held_then : Holding → Option (ℕ × Entry) → Holding
held_then s None = record { holds = s.holds; yields = [] }
held_then s (Some (h, e)) = record { holds = slice_set s.holds h (holds_then e); yields = yields_after h e s.yields }

-- what each hart holds before a number of a page
pub record AreHeld (log : Log) (page k : ℕ) (holds : List (Option Mode)) : Type 0 where
  pub size : length holds ≡ length log.streams
  pub each : (h : ℕ) → h < length log.streams → hold_of holds h ≡ held log page h k

-- the yields by others are those that a gain by any hart with this number has to wait for
abbrev pub AreDue : Log → ℕ → ℕ → List WaitFor → Type 0
AreDue log page k yields = (h : ℕ) → waits_of yields h ≡ waits_due log page h k
