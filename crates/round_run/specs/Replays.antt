-- Replays in rounds: turns of all harts until none changes anything, and their legs (docs/replay.md).
use Rattle.std.specs.Prelude.{ℕ, ◌≡◌, ◌≢◌, ◌⊎◌, ◌+◌, ◌-◌, ◌*◌, ◌<◌, ◌≤◌, map, Bool, false, IsTrue, List, length, slice_get, slice_index}
use Rattle.std.specs.Prelude.{slice_index_or, Option, Some, None, IfSome}
use Rattle.log_entry.specs.declared.log.Log.{Log}
use Rattle.log_entry.specs.Parts.{unit_of}
use Rattle.orders_law.specs.Orders.{total}
use Rattle.flat_machine.specs.State.{FlatState}
use Rattle.replay_model.specs.Board.{board}
use Rattle.replay_model.specs.State.{Replay}
use Rattle.replay_model.specs.Items.{Move, CanGo, next_item, verdict}
use Rattle.run_model.specs.Run.{Run}
use Rattle.replay_parts.specs.Boards.{Plain, state_of}
use Rattle.replay_parts.specs.Laws.{Reaches}
use Rattle.replay_parts.specs.Parts.{IsPart, until_in}
use Rattle.replay_core.specs.Items.{IsStuck}
use Rattle.replay_core.specs.declared.went.Pace.{Pace}
use Rattle.replay_core.specs.declared.went.Pace.TheVariants.{Go}
use Rattle.round_run.specs.Legs.{Goes}

-- up to which count a hart may move whose pace this is, if it may move
abbrev pub until_paced : Pace → Option ℕ
until_paced (Go until) = Some until
until_paced pace = None

-- up to which count the hart can move on from this state of a replay, and else that it can't go on
abbrev pub MayMoveFrom : Log → Replay FlatState → ℕ → Option ℕ → Type 0
MayMoveFrom log s h (Some until) =
    (next_item (board (unit_of log)) log s h ≡ Move) × (verdict (board (unit_of log)) log s h ≡ CanGo) × (until ≡ until_in log s h)
MayMoveFrom log s h None = verdict (board (unit_of log)) log s h ≢ CanGo

-- and from where the board stands
abbrev pub MayMove : Plain → ℕ → Option ℕ → Type 0
MayMove p h until = MayMoveFrom p.log (state_of p) h until

-- of each hart
abbrev pub MayAllMove : Plain → List (Option ℕ) → Type 0
MayAllMove p untils = (h : ℕ) → h < length p.log.streams → MayMove p h (slice_index_or untils h None)

-- the run is its hart's part of the board, or has made a leg since it was
pub record IsPartLed (p : Plain) (h : ℕ) (r : Run) : Type 0 where
  pub part : Run
  pub is : IsPart p h part
  pub until : Option ℕ
  pub goes : Goes part r until
  pub within : IfSome until (λ n. n ≤ until_in p.log (state_of p) h)

-- the board stands for a state; the runs are so in the order of the harts, and those of the first harts, so many, are their parts
pub record AreLed (n : ℕ) (p : Plain) (runs : List Run) : Type 0 where
  pub at : Replay FlatState
  pub reaches : Reaches p at
  pub number : length runs ≡ length p.log.streams
  pub each : (h : ℕ) (r : Run) → slice_get runs h ≡ Some r → IsPartLed p h r
  pub parts : (h : ℕ) (r : Run) → h < n → slice_get runs h ≡ Some r → IsPart p h r

-- all are
abbrev pub AreAllParts : Plain → List Run → Type 0
AreAllParts p runs = AreLed (length p.log.streams) p runs

-- a run has moved since its hart's turn
abbrev pub HasMoved : Plain → ℕ → Run → Type 0
HasMoved p h r = slice_index p.counts h < r.count

abbrev pub SomeHasMoved : Plain → List Run → Type 0
SomeHasMoved p runs = (h : ℕ) × ((r : Run) × ((slice_get runs h ≡ Some r) × HasMoved p h r))

-- how many entries and moves may be left
abbrev pub left_in : Plain → ℕ
left_in p = total (map length p.log.streams) + length p.log.streams * p.log.limit - (total p.places + total p.counts)

-- the boards are of the replay of one log over one image
abbrev pub SameReplay : Plain → Plain → Type 0
SameReplay p q = (q.log ≡ p.log) × (q.image ≡ p.image)

-- a turn of hart h, behind those of the harts before it; whether it changed anything
pub record HadTurn (h : ℕ) (p q : Plain) (before after : List Run) (olds untils : List (Option ℕ)) (changed : Bool) : Type 0 where
  pub same : SameReplay p q
  pub led : AreLed (h + 1) q after
  pub others : (g : ℕ) → g ≢ h → slice_get after g ≡ slice_get before g
  pub olds_stay : (g : ℕ) → g ≢ h → slice_index_or untils g None ≡ slice_index_or olds g None
  pub places : length untils ≡ length olds
  pub told : MayMove q h (slice_index_or untils h None)
  pub less : IsTrue changed → left_in q < left_in p
  pub still : changed ≡ false → (q ≡ p) × ((r : Run) → slice_get before h ≡ Some r → HasMoved p h r → ⊥)

-- turns of the first harts, so many; whether any changed anything
pub record HadTurns (n : ℕ) (p q : Plain) (before after : List Run) (untils : List (Option ℕ)) (changed : Bool) : Type 0 where
  pub same : SameReplay p q
  pub led : AreLed n q after
  pub places : length untils ≡ 8
  pub rest : (g : ℕ) → n ≤ g → slice_get after g ≡ slice_get before g
  pub less : IsTrue changed → left_in q < left_in p
  pub still : changed ≡ false → q ≡ p
  pub told : changed ≡ false → (h : ℕ) → h < n → MayMove q h (slice_index_or untils h None)
  pub unmoved : changed ≡ false → (h : ℕ) (r : Run) → h < n → slice_get before h ≡ Some r → HasMoved p h r → ⊥

-- sweeps, behind which less is left if there was any
pub record Sweeps (p q : Plain) (before after : List Run) (untils : List (Option ℕ)) : Type 0 where
  pub same : SameReplay p q
  pub led : AreLed 0 q after
  pub places : length untils ≡ 8
  pub less : ((q ≡ p) × (after ≡ before)) ⊎ (left_in q < left_in p)

-- sweeps until one changes nothing; where a run had moved less is left
pub record Settles (p q : Plain) (before after : List Run) (untils : List (Option ℕ)) : Type 0 where
  pub same : SameReplay p q
  pub led : AreAllParts q after
  pub places : length untils ≡ 8
  pub told : MayAllMove q untils
  pub less : SomeHasMoved p before → left_in q < left_in p

-- a replay before its first round
pub record MayReplay (p : Plain) (runs : List Run) (untils : List (Option ℕ)) : Type 0 where
  pub led : AreLed 0 p runs
  pub places : length untils ≡ 8

-- and behind its last: no hart can go on
pub record ReplayEnds (p q : Plain) (runs : List Run) : Type 0 where
  pub same : SameReplay p q
  pub parts : AreAllParts q runs
  pub stuck : IsStuck q.log (state_of q)
