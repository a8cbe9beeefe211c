-- What falls from round to round.
use Rattle.std.specs.Prelude.{ℕ, ◌+◌, ◌-◌, ◌*◌, nat_lt, Bool, List, [], ◌∷◌, if◌then◌else◌}
use Rattle.std.specs.List.{list_any}
use Rattle.turn_model.specs.Recordable.{Recordable}
use Rattle.turn_model.specs.Board.{Board, Terms, harts, count}
use Rattle.turn_model.specs.Lists.{whole_leg}

module _ {S V : Type 0} (machine : Recordable S V) (terms : Terms) where
  -- how many moves harts may still make
  abbrev pub left_of : Board S → List ℕ → ℕ
  left_of b [] = 0
  left_of b (h ∷ hs) = (terms.limit - count machine terms b h) + left_of b hs

  -- a hart has moves ahead of it that it can make before its next turn
  abbrev pub has_leg : Board S → Bool
  has_leg b = list_any (λ h. nat_lt 0 (whole_leg machine terms h b)) (harts b)

  -- twice the moves that all harts may still make, and one where none has any ahead
  abbrev pub rounds_left : Board S → ℕ
  rounds_left b = 2 * left_of b (harts b) + (if has_leg b then 0 else 1)
