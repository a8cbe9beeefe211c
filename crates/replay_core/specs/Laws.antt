-- Where a stage can come to its end (docs/replay.md).
use Rattle.std.specs.Prelude.{ℕ, ◌≡◌, List, length, Option, Some}
use Rattle.elf_image.specs.Image.{Image}
use Rattle.log_entry.specs.Parts.{unit_of}
use Rattle.orders_law.specs.Orders.{IsLeast}
use Rattle.flat_machine.specs.State.{FlatState}
use Rattle.flat_machine.specs.declared.results.Step.{Step}
use Rattle.replay_model.specs.Items.{step}
use Rattle.replay_model.specs.Board.{board}
use Rattle.replay_model.specs.State.{Replay}
use Rattle.replay_model.specs.Outcome.{Outcome, IsOutcome, outcome_at}
use Rattle.replay_law.specs.Laws.{first_flat, first_replay}
use Rattle.replay_core.specs.declared.replaying.Replaying.{Replaying}
use Rattle.replay_core.specs.Items.{IsStuck}
use Rattle.replay_core.specs.Standing.{IsAt}

-- where no hart of a stage can go, its state is that behind the least order
abbrev pub EndsAreLeast : Type 0
EndsAreLeast = (image : Image) (stage : Replaying) (s : Replay FlatState) → IsAt image stage s → IsStuck stage.board.log s
    → (made : List (ℕ × Option (List Step)))
    × IsLeast (step (board (unit_of stage.board.log)) stage.board.log) (length stage.board.log.streams) (first_replay stage.board.log image) made s

-- and what it comes to is the replay's outcome
abbrev pub EndsTellOutcome : Type 0
EndsTellOutcome = (image : Image) (stage : Replaying) (s : Replay FlatState) (outcome : Outcome FlatState) → IsAt image stage s → IsStuck stage.board.log s
    → outcome_at (board (unit_of stage.board.log)) stage.board.log s ≡ Some outcome
    → IsOutcome (board (unit_of stage.board.log)) stage.board.log (first_flat stage.board.log image) outcome
