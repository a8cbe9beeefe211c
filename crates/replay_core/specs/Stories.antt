-- The moves of a hart, as a replay tells them (docs/replay.md).
use Rattle.std.specs.Prelude.{ℕ, ◌≡◌, List, flat_map, take, drop, length, Option}
use Rattle.elf_image.specs.Image.{Image}
use Rattle.log_entry.specs.declared.log.Log.{Log}
use Rattle.log_entry.specs.Parts.{unit_of}
use Rattle.orders_law.specs.Orders.{IsLeast}
use Rattle.flat_machine.specs.State.{FlatState}
use Rattle.flat_machine.specs.declared.results.Step.{Step}
use Rattle.replay_model.specs.Board.{board}
use Rattle.replay_model.specs.State.{Replay}
use Rattle.replay_model.specs.Items.{step, story}
use Rattle.replay_law.specs.Laws.{first_replay}

-- the moves of a hart along an order
abbrev pub moves_of : Log → ℕ → List (ℕ × Option (List Step)) → List Step
moves_of log h made = flat_map (λ told. told) (story (board (unit_of log)) log h made)

-- those from one count on, below another: the place of a move is the hart's count before it
abbrev pub moves_between : ℕ → ℕ → List Step → List Step
moves_between from to moves = drop from (take to moves)

-- those of a hart along the least order of the replay of an image
abbrev pub IsStoryOf : Log → Image → ℕ → ℕ → ℕ → List Step → Type 0
IsStoryOf log image h from to steps =
    (made : List (ℕ × Option (List Step))) × ((end : Replay FlatState)
    × IsLeast (step (board (unit_of log)) log) (length log.streams) (first_replay log image) made end
    × (steps ≡ moves_between from to (moves_of log h made)))
