-- A replay by a list of harts.
use Rattle.std.specs.Prelude.{ℕ, ◌≡◌, ◌<◌, List, [], ◌∷◌, length, slice_get, Some}
use Rattle.elf_image.specs.Image.{Image}
use Rattle.log_entry.specs.declared.log.Log.{Log}
use Rattle.flat_machine.specs.State.{FlatState}
use Rattle.replay_model.specs.State.{Replay}
use Rattle.replay_core.specs.declared.replaying.Replaying.{Replaying}
use Rattle.replay_core.specs.declared.went.Went.{Went}
use Rattle.replay_core.specs.Items.{after, answer_of}
use Rattle.replay_core.specs.Standing.{IsAt}

-- the state once each hart of a list had its turn of one item
abbrev pub state_along : Log → Replay FlatState → List ℕ → Replay FlatState
state_along log s [] = s
state_along log s (h ∷ hs) = state_along log (after log h s) hs

-- and what came of the items
abbrev pub answers_along : Log → Replay FlatState → List ℕ → List Went
answers_along log s [] = []
answers_along log s (h ∷ hs) = answer_of log s h ∷ answers_along log (after log h s) hs

-- so it is at each state of a stage
abbrev pub FollowsList : Replaying → Replaying → List ℕ → List Went → Type 0
FollowsList old new list answers = (image : Image) (s : Replay FlatState) → IsAt image old s
    → (answers ≡ answers_along old.board.log s list) × IsAt image new (state_along old.board.log s list)

-- the numbers are harts of the log
abbrev pub AreHarts : Log → List ℕ → Type 0
AreHarts log list = (k h : ℕ) → slice_get list k ≡ Some h → h < length log.streams
