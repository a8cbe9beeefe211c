-- The boards that turns lead to (docs/recorder.md).
use Rattle.std.specs.Prelude.{ℕ, ◌≡◌, ◌<◌, ◌≤◌, Some}
use Rattle.rv_words.specs.declared.shared.Cause.{Cause}
use Rattle.turn_model.specs.Recordable.{Recordable}
use Rattle.turn_model.specs.Board.{Board, Supply, Terms, board_at_start, closes}
use Rattle.turn_model.specs.Turn.{turn}
use Rattle.turn_model.specs.Lists.{whole_leg}
use Rattle.turn_model.specs.Rounds.{with_favoured}

-- from the board before any turn, by turns of its harts, with moves of their legs; between them the favoured hart may be set, and
-- the board closed
pub data Reached {S V : Type 0} (machine : Recordable S V) (terms : Terms) (harts : ℕ) (first : S) (supply : Supply) : Board S → Type 0 where
  Begun : Reached machine terms harts first supply (board_at_start terms harts first supply)
  Turned : (h n : ℕ) (b c : Board S) → Reached machine terms harts first supply b → h < harts → n ≤ whole_leg machine terms h b
      → turn machine terms h n b ≡ Some c → Reached machine terms harts first supply c
  Favours : (r : ℕ) (b : Board S) → Reached machine terms harts first supply b → Reached machine terms harts first supply (with_favoured r b)
  Shut : (cause : Cause) (b : Board S) → Reached machine terms harts first supply b → Reached machine terms harts first supply (closes cause b)
