-- Rounds until the board is over, and the turns behind them (docs/recorder.md).
use Rattle.std.specs.Prelude.{ℕ, ◌≡◌, ◌⊎◌, ◌+◌, ◌<◌, ◌≤◌, nat_lt, true, List, slice_index, Option, if◌then◌else◌}
use Rattle.rv_words.specs.Limits.{most_moves}
use Rattle.orders_law.specs.Orders.{below}
use Rattle.run_model.specs.Run.{Run}
use Rattle.turn_model.specs.Rounds.{rounds, last_turns}
use Rattle.crew_parts.specs.Boards.{Plain, the_machine, is_over_in, plain_at_start, terms_of}
use Rattle.crew_core.specs.declared.order.Order.{Order}
use Rattle.recorded_turns.specs.Laws.{IsTaken, left_in}
use Rattle.recorded_turns.specs.Recordings.{InRounds}
use Rattle.recorded_turns.specs.Takes.{Takes}
use Rattle.turn_model.specs.Lists.{comes_to}
use Rattle.crew_parts.specs.Boards.{board_of}
use Rattle.recorder.specs.Manned.{IsManned, HasTurnOf, leg_in, still}
use Rattle.round_run.specs.Legs.{HaveStood, IsReady}

-- the board of the same terms before any turn
abbrev pub start_of : Plain → Plain
start_of p = plain_at_start p.image p.harts p.limit p.log_limit p.first

-- a board before any turn, within its limit, whose harts stand at their latest turns
pub record MayBegin (p : Plain) (runs : List Run) (orders : List (Option Order)) (stood : List ℕ) : Type 0 where
  pub start : p ≡ start_of p
  pub limit : p.limit ≤ most_moves
  pub manned : IsManned p runs orders still
  pub stays : HaveStood p stood

-- how many rounds there may still be
abbrev pub rounds_in : Plain → ℕ
rounds_in p = if is_over_in p then 0 else left_in p + 1

-- so many rounds were made, and the legs behind the last
pub record TakesRounds (n : ℕ) (p q : Plain) (runs : List Run) (orders : List (Option Order)) (stood : List ℕ) : Type 0 where
  pub takes : Takes (terms_of p) (rounds the_machine (terms_of p) 0 n) p q
  pub first : n ≡ 0 → q ≡ p
  pub few : n + rounds_in q ≤ rounds_in p
  pub ready : IsReady q runs orders true
  pub stays : HaveStood q stood

-- the board is over behind rounds
pub record RoundsEnd (p q : Plain) (runs : List Run) (orders : List (Option Order)) (stood : List ℕ) : Type 0 where
  pub number : ℕ
  pub made : TakesRounds number p q runs orders stood
  pub over : is_over_in q ≡ true

-- the legs of the harts from this one on
abbrev pub last_moves : ℕ → Plain → ℕ → ℕ
last_moves i p h = if nat_lt h i then 0 else leg_in p h

-- a turn of a hart that has moved since its latest one, and none of a hart that hasn't
abbrev pub LastTurn : Plain → Plain → ℕ → (ℕ → ℕ) → List Run → List (Option Order) → Type 0
LastTurn p q h moves runs orders =
    ((leg_in p h ≡ 0) × (q ≡ p) × IsManned q runs orders moves) ⊎ ((0 < leg_in p h) × HasTurnOf p q h moves runs orders)

-- the last turns, of so many harts
pub record LastTurnsTo (i : ℕ) (p q : Plain) (runs : List Run) (orders : List (Option Order)) (stood : List ℕ) : Type 0 where
  pub takes : Takes (terms_of p) (last_turns the_machine (terms_of p) (below i)) p q
  pub manned : IsManned q runs orders (last_moves i q)
  pub stays : (h : ℕ) → i ≤ h → h < q.harts → slice_index stood h ≡ slice_index q.counts h

-- all of them
pub record TakesLast (p q : Plain) (runs : List Run) (orders : List (Option Order)) : Type 0 where
  pub takes : Takes (terms_of p) (last_turns the_machine (terms_of p) (below p.harts)) p q
  pub manned : IsManned q runs orders still

-- the recording in rounds, whatever console and clock give later
pub record TakesAll (p q : Plain) (runs : List Run) (orders : List (Option Order)) : Type 0 where
  pub taken : IsTaken p q (λ given left. InRounds (terms_of p) (board_of p given) (comes_to the_machine (terms_of p) (board_of q left)))
  pub terms : terms_of q ≡ terms_of p
  pub manned : IsManned q runs orders still
