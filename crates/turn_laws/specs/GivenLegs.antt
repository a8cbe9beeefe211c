-- Legs that are taken before the turns (docs/recorder.md).
use Rattle.std.specs.Prelude.{ℕ, ◌<◌, ◌==◌, List, [], ◌∷◌, Option, Some, if◌then◌else◌}
use Rattle.std.specs.Option.{option_and_then}
use Rattle.turn_model.specs.Recordable.{Recordable}
use Rattle.turn_model.specs.Board.{Board, Terms}
use Rattle.turn_model.specs.Turn.{turn}
use Rattle.turn_model.specs.Rounds.{with_favoured}

module _ {S V : Type 0} (machine : Recordable S V) (terms : Terms) where
  -- a sweep in which each hart has this leg
  abbrev pub sweep_with : ℕ → (ℕ → ℕ) → List ℕ → Board S → Option (Board S)
  sweep_with r legs [] b = Some b
  sweep_with r legs (h ∷ hs) b = option_and_then (sweep_with r legs hs) (turn machine terms h (legs h) (with_favoured r b))

  -- last turns with these legs
  abbrev pub last_with : (ℕ → ℕ) → List ℕ → Board S → Option (Board S)
  last_with legs [] b = Some b
  last_with legs (h ∷ hs) b = option_and_then (last_with legs hs) (if legs h == 0 then Some b else turn machine terms h (legs h) b)
