-- Which hart stands before another, what harts claim, and what keeps a hart from a page (docs/recorder.md).
use Rattle.std.specs.Prelude.{ℕ, ◌+◌, ◌-◌, ◌%◌, ◌==◌, ◌&&◌, not, nat_lt, nat_le, Bool, List, [], ◌∷◌, find, length, Option, Some, if◌then◌else◌}
use Rattle.std.specs.List.{list_any}
use Rattle.std.specs.Option.{option_or}
use Rattle.rv_words.specs.declared.shared.Mode.{Mode}
use Rattle.rv_words.specs.Modes.{conflicts}
use Rattle.log_entry.specs.Parts.{strength, conflict, is_some_and}
use Rattle.order_rules.specs.Holders.{held}
use Rattle.turn_model.specs.Recordable.{Recordable}
use Rattle.turn_model.specs.Board.{Board, Terms, harts, wanted, is_at_limit}

-- how far a hart comes behind the favoured one, round the board
abbrev pub rank : {S : Type 0} → Board S → ℕ → ℕ
rank b h = (h + length b.streams - b.favoured) % length b.streams

abbrev pub stands_before : {S : Type 0} → Board S → ℕ → ℕ → Bool
stands_before b h g = nat_lt (rank b h) (rank b g)

abbrev pub holds_so : {S : Type 0} → Board S → ℕ → ℕ × Mode → Bool
holds_so b h n = nat_le (strength (Some n.1)) (strength (held b.at.holders n.0 h))

-- the least other hart that holds the page in conflict
abbrev pub clash : {S : Type 0} → Board S → ℕ → ℕ × Mode → Option ℕ
clash b h n = find (λ g. not (g == h) && conflict (held b.at.holders n.0 g) (Some n.1)) (harts b)

-- the least hart that stands before h and has stored a want of the page that conflicts
abbrev pub rival : {S : Type 0} → Board S → ℕ → ℕ × Mode → Option ℕ
rival b h n = find (λ g. stands_before b g h && is_some_and (wanted b g) (λ w. (w.0 == n.0) && conflicts w.1 n.1)) (harts b)

abbrev pub kept_by : {S : Type 0} → Board S → ℕ → ℕ × Mode → Option ℕ
kept_by b h n = option_or (clash b h n) (rival b h n)

module _ {S V : Type 0} (machine : Recordable S V) (terms : Terms) where
  -- what the next move needs, as far as it is known: nothing behind a fetch page that isn't held
  abbrev pub known : Board S → ℕ → List (ℕ × Mode) → List (ℕ × Mode)
  known b h [] = []
  known b h (fetch ∷ rest) = fetch ∷ (if holds_so b h fetch then rest else [])

  abbrev pub needed : Board S → ℕ → List (ℕ × Mode)
  needed b h = machine.flat.need b.at.flat h

  -- below the limit, a hart claims what its next move is known to need, and this conflicts with a mode of the page
  abbrev pub claims_against : Board S → ℕ → ℕ → Mode → Bool
  claims_against b h page mode =
      not (is_at_limit machine terms b h) && list_any (λ n. (n.0 == page) && conflicts n.1 mode) (known b h (needed b h))
