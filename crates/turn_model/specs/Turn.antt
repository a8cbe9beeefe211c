-- A turn: its moves, its steps, and what the board notes of it (docs/recorder.md).
use Rattle.std.specs.Prelude.{ℕ, ◌+◌, ◌-◌, ◌++◌, ◌∷◌, ◌==◌, ◌&&◌, ◌||◌, not, Bool, true, false, List, [], length, slice_set, Option, Some, None, is_some}
use Rattle.std.specs.Prelude.{if◌then◌else◌}
use Rattle.std.specs.Option.{option_and_then, option_eq}
use Rattle.rv_words.specs.declared.shared.Mode.{Mode}
use Rattle.log_entry.specs.Parts.{strength}
use Rattle.replay_model.specs.Outcome.{same}
use Rattle.turn_model.specs.Recordable.{Recordable}
use Rattle.turn_model.specs.Board.{Board, Order, Go, Hold, Rest, Terms, stream, wanted, last_order}
use Rattle.turn_model.specs.Ways.{Way, On, Ends, goes}
use Rattle.turn_model.specs.Steps.{commits, steps}

abbrev pub same_want : ℕ × Mode → ℕ × Mode → Bool
same_want a b = (a.0 == b.0) && (strength (Some a.1) == strength (Some b.1))

abbrev pub same_order : Order → Order → Bool
same_order (Go a) (Go b) = a == b
same_order (Hold p g) (Hold q h) = (p == q) && (g == h)
same_order Rest Rest = true
same_order _ _ = false

-- how many items the hart's turn made: its moves and entries
abbrev pub items_made : {S : Type 0} → ℕ → ℕ → Board S → Board S → ℕ
items_made h n b c = n + (length (stream c h) - length (stream b h))

-- the turn made an item, or changed the hart's stored want or last order, the favoured hart, or the cause
abbrev pub is_noted : {S : Type 0} → ℕ → ℕ → Board S → Board S → Bool
is_noted h items b c =
    not (items == 0) || not (option_eq same_want (wanted b h) (wanted c h)) || not (option_eq same_order (last_order b h) (last_order c h))
    || not (b.favoured == c.favoured) || not (same (is_some b.closed) (is_some c.closed))

abbrev pub with_row : Bool → ℕ × ℕ → List (ℕ × ℕ) → List (ℕ × ℕ)
with_row b row rows = if b then rows ++ row ∷ [] else rows

-- the board after a turn with so many items, of what it was before
abbrev pub with_rows : {S : Type 0} → ℕ → ℕ → ℕ → Board S → Board S → Board S
with_rows h n items b c =
    record c { journal = with_row (not (items == 0)) (h, items) c.journal; turns = with_row (is_noted h items b c) (h, n) c.turns }

abbrev pub with_order : {S : Type 0} → ℕ → Order → Board S → Board S
with_order h order c = record c { orders = slice_set c.orders h (Some order) }

abbrev pub ended_by : {S : Type 0} → ℕ → ℕ → Board S → Way S → Option (Board S)
ended_by h n b (Ends order c) = Some (with_rows h n (items_made h n b c) b (with_order h order c))
ended_by h n b way = None

module _ {S V : Type 0} (machine : Recordable S V) (terms : Terms) where
  -- the board after a turn of a hart with so many moves
  abbrev pub turn : ℕ → ℕ → Board S → Option (Board S)
  turn h n b = option_and_then (λ c. ended_by h n b (goes (steps machine terms h) (On c))) (commits machine terms h n b)
