-- What a hart has of the recorder's board (docs/recorder.md).
use Rattle.std.specs.Prelude.{ℕ, ◌≡◌, ◌≤◌, List, [], length, slice_get, slice_index, Option, Some, None, unwrap_or}
use Rattle.rv_words.specs.Limits.{page_bytes}
use Rattle.rv_words.specs.declared.shared.Mode.{Mode}
use Rattle.rv_hart.specs.State.{Hart}
use Rattle.elf_image.specs.Image.{Image}
use Rattle.log_entry.specs.declared.log.Entry.{Entry}
use Rattle.flat_machine.specs.State.{FlatState}
use Rattle.replay_model.specs.State.{Replay}
use Rattle.run_model.specs.Run.{Run}
pub use Rattle.run_model.specs.Run.{number_of}
use Rattle.run_model.specs.Agreement.{Agrees}
use Rattle.run_model.specs.Legs.{Runs, DifferFor}
use Rattle.run_model.specs.PagesHeld.{pages_in}
pub use Rattle.crew_parts.specs.Boards.{until_by, until_of}
use Rattle.crew_parts.specs.Boards.{Plain, World, the_board, state_of}

-- What a hart has of the board: its state and count; of each page what it holds, and then the memory's bytes; its entries so far; the
-- count up to which it may move; and the terms.
pub record Part : Type 0 where
  pub hart : Option Hart
  pub count : ℕ
  pub pages : List (Option (Mode × List ℕ))
  pub entries : List Entry
  pub until : ℕ
  pub image : Image
  pub harts : ℕ
  pub limit : ℕ
  pub log_limit : ℕ
  pub first : World

abbrev pub part_in : Plain → Replay FlatState → ℕ → Part
part_in p s h = record {
  hart = slice_get s.flat.harts h;
  count = slice_index s.flat.counts h;
  pages = pages_in page_bytes s h;
  entries = unwrap_or (slice_get p.streams h) [];
  until = until_of p h;
  image = p.image;
  harts = p.harts;
  limit = p.limit;
  log_limit = p.log_limit;
  first = p.first;
}

abbrev pub part_of : Plain → ℕ → Part
part_of p h = part_in p (state_of p) h

-- the run is the hart's part of the board
abbrev pub IsPart : Plain → ℕ → Run → Type 0
IsPart p h r = Agrees r h (state_of p)

-- the runs are the parts of the harts, in their order
pub record AreParts (p : Plain) (runs : List Run) : Type 0 where
  pub number : length runs ≡ p.harts
  pub each : (h : ℕ) (r : Run) → slice_get runs h ≡ Some r → IsPart p h r

-- the run made so many moves from the state, each on pages held so and no device access, and agrees with where they lead
pub record IsLed (run : Run) (h n : ℕ) (s : Replay FlatState) : Type 0 where
  pub at : Replay FlatState
  pub runs : Runs the_board h n s at
  pub differ : DifferFor page_bytes h s at
  pub memory : length at.flat.memory ≡ length s.flat.memory
  pub agrees : Agrees run h at

-- the run is the part, advanced by so many moves since the hart's last turn, and not beyond the count up to which the part may move
pub record IsPartAdvanced (p : Plain) (h n : ℕ) (r : Run) : Type 0 where
  pub led : IsLed r h n (state_of p)
  pub within : r.count ≤ until_of p h

-- the run is its hart's part of the board, advanced
abbrev pub IsPartMoved : Plain → Run → Type 0
IsPartMoved p r = (n : ℕ) × IsPartAdvanced p (number_of r) n r

-- no part is changed
abbrev pub KeepsParts : Plain → Plain → Type 0
KeepsParts old new = (h : ℕ) → part_of new h ≡ part_of old h
