-- What an order tells of the board that the hart's turn led to (docs/recorder.md).
use Rattle.std.specs.Prelude.{ℕ, ◌≡◌, ◌||◌, Bool, true, false, Some, is_some}
use Rattle.rv_words.specs.declared.shared.Mode.{Mode}
use Rattle.flat_machine.specs.State.{FlatState}
use Rattle.replay_model.specs.State.{want}
use Rattle.turn_model.specs.Board.{Board, Order, Hold, Rest, Terms, is_at_limit, wanted}
use Rattle.turn_model.specs.Claims.{kept_by}
use Rattle.crew_parts.specs.Boards.{the_board, the_machine}

abbrev pub is_rest : Order → Bool
is_rest Rest = true
is_rest order = false

abbrev pub is_hold : Order → Bool
is_hold (Hold page other) = true
is_hold order = false

-- The hart's next move wants the page, and this want is stored. The other hart is the least that holds the page in conflict, else the
-- least that stands before it and has stored a want that conflicts.
pub record IsKept (b : Board FlatState) (h page other : ℕ) : Type 0 where
  pub mode : Mode
  pub wants : want the_board b.at h ≡ Some (page, mode)
  pub stored : wanted b h ≡ Some (page, mode)
  pub by : kept_by b h (page, mode) ≡ Some other

-- A hart is told to rest exactly where the board is closed, stop is set or the hart is at the limit, and to hold exactly where its want
-- is stored.
pub record IsExact (terms : Terms) (b : Board FlatState) (h : ℕ) (order : Order) : Type 0 where
  pub rests : is_rest order ≡ (is_some b.closed || the_board.is_stopped b.at.flat || is_at_limit the_machine terms b h)
  pub holds : is_hold order ≡ is_some (wanted b h)
  pub kept : (page other : ℕ) → order ≡ Hold page other → IsKept b h page other
