-- Recordings by lists of turns (docs/recorder.md).
use Rattle.std.specs.Prelude.{ℕ, zero, suc, ◌-◌, min, List, [], ◌∷◌, map, Option, Some, if◌then◌else◌}
use Rattle.std.specs.Option.{option_map, option_and_then, option_map_or}
use Rattle.rv_words.specs.declared.shared.Cause.TheVariants.{Cut}
use Rattle.log_entry.specs.declared.log.Log.{Log}
use Rattle.replay_model.specs.State.{Replay}
use Rattle.replay_model.specs.Items.{Move, goes, verdict_on}
use Rattle.turn_model.specs.Recordable.{Recordable}
use Rattle.turn_model.specs.Board.{Board, Order, Go, Supply, Terms, harts, last_order, closes, count, is_over, log_of}
use Rattle.turn_model.specs.Turn.{turn}

-- what a recording comes to: the log, the journal, the turns, the flat state at the end, and what console and clock have still to
-- give there
pub record RecordingEnd (S : Type 0) : Type 0 where
  pub log : Log
  pub journal : List (ℕ × ℕ)
  pub turns : List (ℕ × ℕ)
  pub ended : S
  pub left : Supply

module _ {S V : Type 0} (machine : Recordable S V) (terms : Terms) where
  -- of so many further Runs of a hart at most, how many need only pages held so and touch no device
  abbrev pub leg : ℕ → ℕ → Replay S → ℕ
  leg h zero s = 0
  leg h (suc most) s = option_map_or (λ m. suc (leg h most m.0)) (goes machine.flat s h Move (verdict_on machine.flat s h Move)) 0

  abbrev pub leg_by : ℕ → Board S → Option Order → ℕ
  leg_by h b (Some (Go until)) = leg h (until - count machine terms b h) b.at
  leg_by h b order = 0

  -- how many moves a hart can make before its next turn, by its last order
  abbrev pub whole_leg : ℕ → Board S → ℕ
  whole_leg h b = leg_by h b (last_order b h)

  -- for each row of a list a turn of the hart, with so many of these moves at most
  abbrev pub listed : List (ℕ × ℕ) → Board S → Option (Board S)
  listed [] b = Some b
  listed (row ∷ list) b = option_and_then (listed list) (turn machine terms row.0 (min row.1 (whole_leg row.0 b)) b)

  abbrev pub cut : Board S → Board S
  cut b = if is_over machine terms b then b else closes Cut b

  abbrev pub comes_to : Board S → RecordingEnd S
  comes_to b = record { log = log_of machine terms b; journal = b.journal; turns = b.turns; ended = b.at.flat; left = b.supply }

  -- behind the list the board is cut, unless it is over, and each hart has a turn without moves
  abbrev pub closed_after : Board S → Option (Board S)
  closed_after b = listed (map (λ h. (h, 0)) (harts b)) (cut b)

  abbrev pub recorded_by_list : List (ℕ × ℕ) → Board S → Option (RecordingEnd S)
  recorded_by_list list b = option_map comes_to (option_and_then closed_after (listed list b))
