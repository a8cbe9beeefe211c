-- A board whose harts' runs are at hand, and its turns (docs/recorder.md).
use Rattle.std.specs.Prelude.{ℕ, ◌≡◌, ◌≢◌, ◌+◌, ◌<◌, ◌≤◌, ◌==◌, min, List, length, slice_get, slice_index, Option, Some, None, if◌then◌else◌}
use Rattle.run_model.specs.Run.{Run}
use Rattle.run_model.specs.Legs.{KeepsPages}
use Rattle.run_model.specs.declared.asked.Pause.{Pause}
use Rattle.hart_run.specs.Calls.{LegAgrees}
use Rattle.turn_model.specs.Board as model
use Rattle.turn_model.specs.Board.{Go, Supply}
use Rattle.turn_model.specs.Lists.{whole_leg}
use Rattle.crew_parts.specs.Boards.{Plain, World, the_machine, board_of, spent, terms_of, told_to}
use Rattle.crew_parts.specs.Parts.{IsPartAdvanced}
use Rattle.crew_parts.specs.Turns.{Gives, HasTurn}
use Rattle.crew_core.specs.declared.order.Order.{Order}
use Rattle.crew_core.specs.Orders.{told_of}

-- the run made its leg up to what its hart was told, or so many moves of it, if it was told to go on
abbrev pub Advances : Run → Run → Option model.Order → ℕ → Type 0
Advances old new (Some (Go until)) most =
    (pause : Pause) × KeepsPages old new × LegAgrees old new (min until (old.count + most)) pause
Advances old new order most = new ≡ old

-- console and clock gave something between two moments, where they tell it
abbrev pub HasGiven : World → World → Type 0
HasGiven old new = (given : Supply) × Gives old new given

-- how many moves a hart can make before its next turn
abbrev pub leg_in : Plain → ℕ → ℕ
leg_in p h = whole_leg the_machine (terms_of p) h (board_of p spent)

-- no run has moved since its hart's turn
abbrev pub still : ℕ → ℕ
still h = 0

-- a hart's run has made so many moves of its leg at most
abbrev pub row_moves : Plain → ℕ → ℕ → ℕ → ℕ
row_moves p h most g = if g == h then min most (leg_in p h) else 0

-- a hart's moves are committed
abbrev pub without : ℕ → (ℕ → ℕ) → ℕ → ℕ
without h moves g = if g == h then 0 else moves g

-- the runs are the parts of the harts, in their order, each advanced by so many moves since its hart's turn, and this was each told last
pub record IsManned (p : Plain) (runs : List Run) (orders : List (Option Order)) (moves : ℕ → ℕ) : Type 0 where
  pub number : length runs ≡ p.harts
  pub places : p.harts ≤ length orders
  pub each : (h : ℕ) (r : Run) → slice_get runs h ≡ Some r → IsPartAdvanced p h (moves h) r
  pub told : (h : ℕ) (o : Option Order) → slice_get orders h ≡ Some o → h < p.harts → told_to p h ≡ told_of o

-- a turn of the hart with the moves that its run had made; the other runs stay, and their harts' legs and counts
pub record HasTurnOf (p q : Plain) (h : ℕ) (moves : ℕ → ℕ) (runs : List Run) (orders : List (Option Order)) : Type 0 where
  pub before : Run
  pub after : Run
  pub order : model.Order
  pub had : HasTurn p q h before after order
  pub made : had.moves ≡ moves h
  pub manned : IsManned q runs orders (without h moves)
  pub legs : (g : ℕ) → g < p.harts → g ≢ h → leg_in q g ≡ leg_in p g
  pub counts : (g : ℕ) → g < p.harts → g ≢ h → slice_index q.counts g ≡ slice_index p.counts g
