-- Which harts of a replay's board could not go on at their latest turns (docs/threads.md).
use Rattle.std.specs.Prelude.{ℕ, ◌≡◌, ◌≢◌, ◌⊎◌, ◌<◌, Bool, true, false, List, length, slice_index_or}
use Rattle.log_entry.specs.Parts.{unit_of}
use Rattle.replay_model.specs.Board.{board}
use Rattle.replay_model.specs.Items.{CanGo, HasEnded, verdict}
use Rattle.replay_core.specs.declared.went.Pace.{Pace}
use Rattle.replay_core.specs.declared.went.Pace.TheVariants.{Go, Ended}
use Rattle.replay_parts.specs.Boards.{Plain, state_of}

abbrev pub is_still : List Bool → ℕ → Bool
is_still still h = slice_index_or still h false

-- each hart that is marked so can't go on from where the board stands
abbrev pub AreStill : Plain → List Bool → Type 0
AreStill p still = (h : ℕ) → h < length p.log.streams → is_still still h ≡ true → verdict (board (unit_of p.log)) p.log (state_of p) h ≢ CanGo

-- each hart that is marked so has ended there
abbrev pub HaveEnded : Plain → List Bool → Type 0
HaveEnded p ended = (h : ℕ) → h < length p.log.streams → is_still ended h ≡ true → verdict (board (unit_of p.log)) p.log (state_of p) h ≡ HasEnded

-- whose marks stay: of all, where the board is the same, and else of those that have ended
abbrev pub StayMarked : Bool → List Bool → List Bool → List Bool → Type 0
StayMarked same ended old new = (g : ℕ) → is_still new g ≡ true → ((same ≡ true) × (is_still old g ≡ true)) ⊎ (is_still ended g ≡ true)

-- one mark is another, and the rest as they were
abbrev pub IsMarkedAs : ℕ → Bool → List Bool → List Bool → Type 0
IsMarkedAs h mark old new = (g : ℕ) → is_still new g ≡ true → ((g ≡ h) × (mark ≡ true)) ⊎ ((g ≢ h) × (is_still old g ≡ true))

-- whether a pace tells its hart to go on
abbrev pub goes_by : Pace → Bool
goes_by (Go until) = true
goes_by pace = false

-- whether it tells that the hart has ended
abbrev pub ends_by : Pace → Bool
ends_by Ended = true
ends_by pace = false
