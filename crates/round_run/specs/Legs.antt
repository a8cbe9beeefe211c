-- Legs that are made beside each other (docs/recorder.md).
use Rattle.std.specs.Prelude.{ℕ, ◌≡◌, ◌<◌, ◌≤◌, Bool, List, length, slice_index, slice_index_or, Option, Some, None, IfSome, if◌then◌else◌}
use Rattle.run_model.specs.Run.{Run}
use Rattle.run_model.specs.Legs.{KeepsPages}
use Rattle.run_model.specs.declared.asked.Pause.{Pause}
use Rattle.hart_run.specs.Calls.{LegAgrees}
use Rattle.crew_parts.specs.Boards.{Plain}
use Rattle.crew_core.specs.declared.order.Order.{Order}
use Rattle.crew_core.specs.declared.order.Order.TheVariants.{Go}
use Rattle.recorder.specs.Manned.{IsManned, leg_in}

-- up to which count a hart may move that was told this, if it may move
abbrev pub until_told : Option Order → Option ℕ
until_told (Some (Go until)) = Some until
until_told order = None

-- up to which counts the harts may move that were told these
abbrev pub AreUntils : List (Option Order) → List (Option ℕ) → Type 0
AreUntils orders untils = (h : ℕ) → h < length orders → slice_index_or untils h None ≡ until_told (slice_index_or orders h None)

-- the run stands no further than its hart may move
abbrev pub IsWithin : Run → Option ℕ → Type 0
IsWithin r until = IfSome until (λ n. r.count ≤ n)

-- the run made its leg up to this count, if its hart may move
abbrev pub Goes : Run → Run → Option ℕ → Type 0
Goes old new (Some until) = (pause : Pause) × KeepsPages old new × LegAgrees old new until pause
Goes old new None = new ≡ old

-- each run stands no further than its hart may move
abbrev pub MayGo : List Run → List (Option ℕ) → Type 0
MayGo runs untils = (h : ℕ) (r : Run) → h < length runs → r ≡ slice_index_or runs h r
    → IsWithin r (slice_index_or untils h None)

-- each run made its leg
pub record HaveGone (old new : List Run) (untils : List (Option ℕ)) : Type 0 where
  pub number : length new ≡ length old
  pub each : (h : ℕ) (d : Run) → h < length old
      → Goes (slice_index_or old h d) (slice_index_or new h d) (slice_index_or untils h None)

-- how many moves a run has made: those of the whole leg, or none
abbrev pub ready_moves : Bool → Plain → ℕ → ℕ
ready_moves moved p h = if moved then leg_in p h else 0

-- each run has made its whole leg, or none has moved, since its hart's turn
abbrev pub IsReady : Plain → List Run → List (Option Order) → Bool → Type 0
IsReady p runs orders moved = IsManned p runs orders (ready_moves moved p)

-- where the harts stood at their latest turns
abbrev pub HaveStood : Plain → List ℕ → Type 0
HaveStood p stood = (h : ℕ) → h < p.harts → slice_index stood h ≡ slice_index p.counts h
