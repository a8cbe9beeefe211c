-- What a hart has of a replay's board (docs/replay.md).
use Rattle.std.specs.Prelude.{ℕ, ◌≡◌, ◌≤◌, List, length, slice_get, slice_index, Option, Some, None}
use Rattle.rv_words.specs.declared.shared.Mode.{Mode}
use Rattle.rv_hart.specs.State.{Hart}
use Rattle.elf_image.specs.Image.{Image}
use Rattle.log_entry.specs.declared.log.Entry.{Entry}
use Rattle.log_entry.specs.declared.log.Log.{Log}
use Rattle.log_entry.specs.Parts.{count_of, unit_of}
use Rattle.order_rules.specs.Cursor.{first_left}
use Rattle.flat_machine.specs.State.{FlatState}
use Rattle.replay_model.specs.Board.{board}
use Rattle.replay_model.specs.State.{Replay}
use Rattle.run_model.specs.Run.{Run}
use Rattle.run_model.specs.Agreement.{Agrees}
use Rattle.run_model.specs.Legs.{Runs, DifferFor}
use Rattle.run_model.specs.PagesHeld.{pages_in}
use Rattle.replay_parts.specs.Boards.{Plain, state_of}

-- its state and count; of each page what it holds, and then the memory's bytes; its place in its stream, and the count of the entry there, up
-- to which it may move; and the terms
pub record Part : Type 0 where
  pub hart : Option Hart
  pub count : ℕ
  pub pages : List (Option (Mode × List ℕ))
  pub place : ℕ
  pub until : ℕ
  pub log : Log
  pub image : Image

-- the count of the entry at a hart's place, and its own where there is none
abbrev pub until_by : ℕ → Option Entry → ℕ
until_by count None = count
until_by count (Some e) = count_of e

abbrev pub until_in : Log → Replay FlatState → ℕ → ℕ
until_in log s h = until_by (slice_index s.flat.counts h) (first_left log s.cursor h)

abbrev pub part_in : Plain → Replay FlatState → ℕ → Part
part_in p s h = record {
  hart = slice_get s.flat.harts h;
  count = slice_index s.flat.counts h;
  pages = pages_in (unit_of p.log) s h;
  place = slice_index s.cursor.places h;
  until = until_in p.log s h;
  log = p.log;
  image = p.image;
}

abbrev pub part_of : Plain → ℕ → Part
part_of p h = part_in p (state_of p) h

-- the run is the hart's part of the board
abbrev pub IsPart : Plain → ℕ → Run → Type 0
IsPart p h r = Agrees r h (state_of p)

-- the run made so many moves from the state, each on pages held so and no device access, and agrees with where they lead
pub record IsLed (p : Plain) (r : Run) (h n : ℕ) (s : Replay FlatState) : Type 0 where
  pub at : Replay FlatState
  pub runs : Runs (board (unit_of p.log)) h n s at
  pub differ : DifferFor (unit_of p.log) h s at
  pub memory : length at.flat.memory ≡ length s.flat.memory
  pub agrees : Agrees r h at

-- the run is the part, advanced by so many moves since the hart's last turn, and not beyond the count up to which it may move
pub record IsPartAdvanced (p : Plain) (h n : ℕ) (r : Run) : Type 0 where
  pub led : IsLed p r h n (state_of p)
  pub within : r.count ≤ until_in p.log (state_of p) h
