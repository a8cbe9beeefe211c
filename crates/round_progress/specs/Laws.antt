-- What holds of each recording of a board in rounds, and when there is one (docs/recorder.md).
use Rattle.std.specs.Prelude.{ℕ, ◌≡◌, ◌≢◌, ◌⊎◌, ◌+◌, ◌-◌, ◌*◌, ◌%◌, ◌<◌, ◌≤◌, ◌==◌, nat_lt, not, true, false, List, length, Some}
use Rattle.elf_image.specs.Image.{Image, IsWhole}
use Rattle.flat_machine.specs.State.{FlatState}
use Rattle.turn_model.specs.Board.{Board, Supply, Terms, count, is_over}
use Rattle.turn_model.specs.Turn.{turn}
use Rattle.turn_model.specs.Lists.{RecordingEnd, whole_leg, recorded_by_list}
use Rattle.turn_model.specs.Rounds.{round, rounds, IsRecordedInRounds}
use Rattle.turn_model.specs.Laws.{IsPagedBoard, OfHarts, machine_in, first_board}
use Rattle.round_progress.specs.Measure.{rounds_left}

-- a turn with moves of the hart's leg asks the clock at most twice, and where the clock has two answers left there is a board behind it
abbrev pub TurnsAreThere : Type 0
TurnsAreThere = (terms : Terms) (harts pages h n : ℕ) (b : Board FlatState)
    → IsPagedBoard harts pages b.at.flat → length b.streams ≡ harts → h < harts
    → n ≤ whole_leg (machine_in terms) terms h b → 2 ≤ length b.supply.times
    → (c : Board FlatState) × (turn (machine_in terms) terms h n b ≡ Some c)
    × IsPagedBoard harts pages c.at.flat × (length c.streams ≡ harts) × (length b.supply.times ≤ length c.supply.times + 2)

-- so a list of turns has a recording, where the clock has two answers for each row of it and for each hart behind it
abbrev pub ListsAreRecorded : Type 0
ListsAreRecorded = (terms : Terms) (image : Image) (harts : ℕ) (supply : Supply) (list : List (ℕ × ℕ))
    → OfHarts harts list → 2 * (length list + harts) ≤ length supply.times
    → (r : RecordingEnd FlatState) × (recorded_by_list (machine_in terms) terms list (first_board terms image harts supply) ≡ Some r)

-- so many rounds lead from the start of an image to this board
abbrev pub IsBehindRounds : Terms → Image → ℕ → Supply → ℕ → Board FlatState → Type 0
IsBehindRounds terms image harts supply n b = rounds (machine_in terms) terms 0 n (first_board terms image harts supply) ≡ Some b

-- round n leads from a board that isn't over to another
abbrev pub IsRound : Terms → ℕ → Board FlatState → Board FlatState → Type 0
IsRound terms n b c = (is_over (machine_in terms) terms b ≡ false) × (round (machine_in terms) terms n (not (n == 0)) b ≡ Some c)

-- how far a hart comes behind the hart of a round
abbrev pub rank_from : ℕ → ℕ → ℕ → ℕ
rank_from harts n h = (h + harts - n % harts) % harts

-- of the harts below the limit this one comes first, from the round's hart on
pub record ComesFirst (terms : Terms) (harts n : ℕ) (b : Board FlatState) (p : ℕ) : Type 0 where
  pub inside : p < harts
  pub below : count (machine_in terms) terms b p < terms.limit
  pub first : (g : ℕ) → g < harts → g ≢ p
      → (count (machine_in terms) terms b g ≡ terms.limit) ⊎ (nat_lt (rank_from harts n p) (rank_from harts n g) ≡ true)

-- a hart made a move from one board to another
abbrev pub HasMoved : Terms → ℕ → Board FlatState → Board FlatState → Type 0
HasMoved terms harts b c = (g : ℕ) × (g < harts) × (count (machine_in terms) terms b g < count (machine_in terms) terms c g)

-- behind the sweeps of a round the board is over, or a hart has moved, or the first hart from the round's on that was below the
-- limit was told to go and has moves ahead of it
abbrev pub RoundsGoOn : Type 0
RoundsGoOn = (terms : Terms) (image : Image) (harts : ℕ) (supply : Supply) (n : ℕ) (b c : Board FlatState)
    → IsWhole image → terms.pages ≡ image.pages → IsBehindRounds terms image harts supply n b → IsRound terms n b c
    → (is_over (machine_in terms) terms c ≡ true)
    ⊎ (HasMoved terms harts b c ⊎ ((p : ℕ) × ComesFirst terms harts n b p × (0 < whole_leg (machine_in terms) terms p c)))

-- less is left behind each round that doesn't end the run
abbrev pub RoundsFall : Type 0
RoundsFall = (terms : Terms) (image : Image) (harts : ℕ) (supply : Supply) (n : ℕ) (b c : Board FlatState)
    → IsWhole image → terms.pages ≡ image.pages → IsBehindRounds terms image harts supply n b → IsRound terms n b c
    → is_over (machine_in terms) terms c ≡ false
    → rounds_left (machine_in terms) terms c < rounds_left (machine_in terms) terms b

-- twice the limit for each hart, and one, is left at most
abbrev pub FewAreLeft : Type 0
FewAreLeft = (terms : Terms) (b : Board FlatState)
    → rounds_left (machine_in terms) terms b ≤ 2 * (length b.streams * terms.limit) + 1

-- one round more behind so many, where the board isn't over
abbrev pub RoundsFollow : Type 0
RoundsFollow = (terms : Terms) (n : ℕ) (first b c : Board FlatState)
    → rounds (machine_in terms) terms 0 n first ≡ Some b → IsRound terms n b c
    → rounds (machine_in terms) terms 0 (n + 1) first ≡ Some c

-- twice the moves that all harts may make, and two more
abbrev pub most_rounds : ℕ → ℕ → ℕ
most_rounds harts limit = 2 * (harts * limit) + 2

-- so rounds end: where the clock has six answers for each hart in each round, and two for each behind the last, there is a
-- recording in rounds
abbrev pub RoundsAreRecorded : Type 0
RoundsAreRecorded = (terms : Terms) (image : Image) (harts : ℕ) (supply : Supply)
    → IsWhole image → terms.pages ≡ image.pages → 6 * harts * most_rounds harts terms.limit + 2 * harts ≤ length supply.times
    → (r : RecordingEnd FlatState) × (is : IsRecordedInRounds (machine_in terms) terms (first_board terms image harts supply) r)
    × (is.number ≤ most_rounds harts terms.limit)
