-- Recordings in rounds (docs/recorder.md).
use Rattle.std.specs.Prelude.{ℕ, zero, suc, ◌≡◌, ◌+◌, ◌%◌, ◌==◌, not, Bool, true, false, List, [], ◌∷◌, map, length, Option, Some, None, if◌then◌else◌}
use Rattle.std.specs.Option.{option_and_then}
use Rattle.turn_model.specs.Recordable.{Recordable}
use Rattle.turn_model.specs.Board.{Board, Terms, harts, is_over}
use Rattle.turn_model.specs.Turn.{turn}
use Rattle.turn_model.specs.Lists.{RecordingEnd, whole_leg, comes_to}

-- the harts of a board, from this one on and round
abbrev pub round_from : {S : Type 0} → ℕ → Board S → List ℕ
round_from r b = map (λ i. (r + i) % length b.streams) (harts b)

abbrev pub with_favoured : {S : Type 0} → ℕ → Board S → Board S
with_favoured r b = record b { favoured = r % length b.streams }

module _ {S V : Type 0} (machine : Recordable S V) (terms : Terms) where
  -- a turn of each of these harts, with the round's hart favoured before it, and with the hart's leg where all had one since
  -- their last turns
  abbrev pub sweep : ℕ → Bool → List ℕ → Board S → Option (Board S)
  sweep r moved [] b = Some b
  sweep r moved (h ∷ hs) b = option_and_then (sweep r moved hs) (turn machine terms h (if moved then whole_leg machine terms h b else 0) (with_favoured r b))

  -- three sweeps; behind them every hart whose last order was Go has its leg, all at once
  abbrev pub round : ℕ → Bool → Board S → Option (Board S)
  round r moved b = option_and_then (sweep r false (round_from r b)) (option_and_then (sweep r false (round_from r b)) (sweep r moved (round_from r b) b))

  -- so many rounds from round r on, each while the board isn't over
  abbrev pub rounds : ℕ → ℕ → Board S → Option (Board S)
  rounds r zero b = Some b
  rounds r (suc more) b = if is_over machine terms b then None else option_and_then (rounds (r + 1) more) (round r (not (r == 0)) b)

  -- behind the last round a turn of each hart that has moved since its last one
  abbrev pub last_turns : List ℕ → Board S → Option (Board S)
  last_turns [] b = Some b
  last_turns (h ∷ hs) b = option_and_then (last_turns hs)
      (if whole_leg machine terms h b == 0 then Some b else turn machine terms h (whole_leg machine terms h b) b)

  -- rounds until the board is over, and the last turns, lead from a board to this recording
  pub record IsRecordedInRounds (b : Board S) (r : RecordingEnd S) : Type 0 where
    pub number : ℕ
    pub over : Board S
    pub closed : Board S
    pub are_made : rounds 0 number b ≡ Some over
    pub is_over : is_over machine terms over ≡ true
    pub last : last_turns (harts over) over ≡ Some closed
    pub recorded : r ≡ comes_to machine terms closed
