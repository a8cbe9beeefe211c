-- Laws of a replay's board as plain data (docs/replay.md).
use Rattle.std.specs.Prelude.{ℕ, ◌≡◌, ◌≢◌, ◌⊎◌, ◌+◌, ◌<◌, ◌≤◌, List, length}
use Rattle.orders_law.specs.Orders.{total}
use Rattle.elf_image.specs.Image.{Image}
use Rattle.log_entry.specs.declared.log.Log.{Log}
use Rattle.log_entry.specs.Parts.{unit_of}
use Rattle.flat_machine.specs.State.{FlatState}
use Rattle.replay_model.specs.Board.{board}
use Rattle.replay_model.specs.State.{Replay}
use Rattle.replay_model.specs.Items.{Obeys}
use Rattle.run_model.specs.Run.{Run, number_of}
use Rattle.run_model.specs.Legs.{KeepsPages, MakesLeg}
use Rattle.run_model.specs.declared.asked.Pause.{Pause}
use Rattle.replay_law.specs.Laws.{IsReplayable, first_replay}
use Rattle.replay_parts.specs.Boards.{Plain, first_board, state_of}
use Rattle.replay_parts.specs.Parts.{IsPart, IsPartAdvanced, part_of, until_in}
use Rattle.replay_parts.specs.Turns.{IsTurn, Told}

-- an order that obeys the log leads to the state, in which each hart stands where the board has it committed
pub record Reaches (p : Plain) (s : Replay FlatState) : Type 0 where
  pub replayable : IsReplayable p.log p.image
  pub order : List ℕ
  pub obeys : Obeys (board (unit_of p.log)) p.log (first_replay p.log p.image) order s
  pub places : s.cursor.places ≡ p.places
  pub counts : s.flat.counts ≡ p.counts

-- then that is the state for which the board stands, in whatever order the harts went
abbrev pub StatesAre : Type 0
StatesAre = (p : Plain) (s : Replay FlatState) → Reaches p s → state_of p ≡ s

-- before any turn it is the start of the image's replay
abbrev pub FirstBoards : Type 0
FirstBoards = (log : Log) (image : Image) → IsReplayable log image → Reaches (first_board log image) (first_replay log image)

-- a turn leads on
abbrev pub TurnsReach : Type 0
TurnsReach = (old new : Plain) (s : Replay FlatState) (h n : ℕ) (told : Told) → Reaches old s → h < length old.log.streams
    → (turn : IsTurn old new h n told) → Reaches new turn.at

-- and commits more, or nothing: then its hart had not moved
abbrev pub TurnsRise : Type 0
TurnsRise = (old new : Plain) (s : Replay FlatState) (h n : ℕ) (told : Told) → Reaches old s → h < length old.log.streams
    → IsTurn old new h n told → (total old.places + total old.counts < total new.places + total new.counts) ⊎ ((n ≡ 0) × (new ≡ old))

-- and leaves the part of every other hart
abbrev pub PartsStay : Type 0
PartsStay = (old new : Plain) (s : Replay FlatState) (h g n : ℕ) (told : Told) → Reaches old s → h < length old.log.streams → IsTurn old new h n told
    → g < length old.log.streams → g ≢ h → part_of new g ≡ part_of old g

-- and a run that is another hart's part
abbrev pub RunsGoOn : Type 0
RunsGoOn = (old new : Plain) (s : Replay FlatState) (h g n : ℕ) (told : Told) (run : Run) → Reaches old s → h < length old.log.streams
    → IsTurn old new h n told → g ≢ h → run.frames.unit ≡ unit_of old.log → IsPart old g run → IsPart new g run

-- a run that is a hart's part has pages of the log's unit
abbrev pub PartsHaveUnit : Type 0
PartsHaveUnit = (p : Plain) (s : Replay FlatState) (h : ℕ) (run : Run) → Reaches p s → IsPart p h run → run.frames.unit ≡ unit_of p.log

-- it is the part, advanced by no moves; and by those of a leg that ends no later than the hart may move
abbrev pub PartsUnmoved : Type 0
PartsUnmoved = (p : Plain) (s : Replay FlatState) (h : ℕ) (run : Run) → Reaches p s → IsPart p h run → IsPartAdvanced p h 0 run

abbrev pub LegsAdvance : Type 0
LegsAdvance = (p : Plain) (s : Replay FlatState) (h until : ℕ) (run after : Run) (pause : Pause) → Reaches p s → IsPart p h run → KeepsPages run after
    → (leg : MakesLeg run.frames.unit after pause h until (state_of p)) → until ≤ until_in p.log (state_of p) h → IsPartAdvanced p h leg.leg.moves after

-- and it has its hart's number
abbrev pub PartsAreNumbered : Type 0
PartsAreNumbered = (p : Plain) (s : Replay FlatState) (h n : ℕ) (run : Run) → Reaches p s → IsPartAdvanced p h n run → number_of run ≡ h
