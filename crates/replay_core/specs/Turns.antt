-- Turns of a replay's board (docs/replay.md).
use Rattle.std.specs.Prelude.{ℕ, ◌≡◌, List, length, slice_get, Some}
use Rattle.elf_image.specs.Image.{Image}
use Rattle.flat_machine.specs.State.{FlatState}
use Rattle.replay_model.specs.State.{Replay}
use Rattle.run_model.specs.Run.{Run, number_of}
use Rattle.board_backing.specs.declared.ends.Ends.{Ends}
use Rattle.board_backing.specs.Ends.{HasPlaces}
use Rattle.replay_parts.specs.Boards.{Plain}
use Rattle.replay_parts.specs.Laws.{Reaches}
use Rattle.replay_parts.specs.Parts.{IsPart, IsPartAdvanced}
use Rattle.replay_parts.specs.Turns.{IsTurn, Told}
use Rattle.replay_parts.specs.Turns as turns
use Rattle.replay_core.specs.declared.position.Position.{Position}
use Rattle.replay_core.specs.declared.went.Pace.{Pace}
use Rattle.replay_core.specs.declared.went.Pace.TheVariants as paces
use Rattle.replay_core.specs.declared.went.Went.{Went}
use Rattle.replay_core.specs.declared.went.Went.TheVariants as went
use Rattle.replay_core.specs.Standing.{Stands}

-- what a pace tells
abbrev pub told : Pace → Told
told (paces.Go until) = turns.Goes until
told paces.Hold = turns.Waits
told (paces.Diverged rule) = turns.Diverges rule
told paces.Ended = turns.Ends

-- the pace of a hart by what comes of its next item: where that can be made the hart may go on up to this count
abbrev pub pace_of : ℕ → Went → Pace
pace_of until went.Moved = paces.Go until
pace_of until went.Entry = paces.Go until
pace_of until went.Hold = paces.Hold
pace_of until (went.Diverged rule) = paces.Diverged rule
pace_of until went.Ended = paces.Ended

-- the board as plain data
abbrev pub plain_of : Position → Image → List ℕ → Plain
plain_of b image counts = record { log = b.log; image = image; places = b.cursor.places; counts = counts }

-- it stands for the state to which the harts' turns led, and has the places of its end
pub record IsSeenAs (b : Position) (ends : Ends) (p : Plain) : Type 0 where
  pub at : Replay FlatState
  pub stands : Stands p.image b at
  pub reaches : Reaches p at
  pub has_places : HasPlaces ends (length b.log.streams) (length at.flat.memory)

-- the run is its hart's part of the board, advanced since the hart's last turn
abbrev pub IsPartMoved : Plain → Run → Type 0
IsPartMoved p r = (n : ℕ) × IsPartAdvanced p (number_of r) n r

-- the hart had a turn, by so many moves as its run was advanced; behind it the run is its part again
abbrev pub HasTurn : Plain → Plain → Run → Run → Told → Type 0
HasTurn old new before after told =
    (n : ℕ) → IsPartAdvanced old (number_of before) n before → IsTurn old new (number_of before) n told × IsPart new (number_of before) after

-- the runs are the parts of the harts, in their order
pub record AreParts (p : Plain) (runs : List Run) : Type 0 where
  pub number : length runs ≡ length p.log.streams
  pub each : (h : ℕ) (r : Run) → slice_get runs h ≡ Some r → IsPart p h r
