-- What the recorder's board keeps of its plain data.
use Rattle.std.specs.Prelude.{ℕ, ◌≡◌, ◌<◌, ◌≤◌, length, map, All, Bool, List, [], IsTrue}
use Rattle.rv_words.specs.Limits.{most_moves}
use Rattle.elf_image.specs.Image.{Image}
use Rattle.log_entry.specs.Waits.{WaitList}
use Rattle.crew_parts.specs.Boards.{Plain, World, IsBoardOf, board_of, spent}
use Rattle.crew_parts.specs.Boards as boards
use Rattle.crew_core.specs.declared.seat.Seat.{Seat}
use Rattle.crew_core.specs.declared.crew.Crew.{Crew}
use Rattle.crew_core.specs.Lanes.{Rows}
use Rattle.crew_core.specs.Orders.{told_of}
use Rattle.crew_core.specs.Seats.{HasRoomForAll, without_room}
use Rattle.crew_core.specs.Standing.{Stands, terms_of}

-- what a crew with these rows is seen as
abbrev pub plain_of : Crew → List (ℕ × ℕ) → List (ℕ × ℕ) → Image → World → World → Bool → Bool → Plain
plain_of c journal turns image first now abandoned prepared = record {
  image = image;
  harts = c.harts;
  limit = c.limit;
  log_limit = c.log_limit;
  first = first;
  streams = map (λ (s : Seat). s.lane.entries) c.seats;
  counts = map (λ (s : Seat). s.count) c.seats;
  journal = journal;
  turns = turns;
  wants = c.directory.wants;
  orders = map (λ (s : Seat). told_of s.order) c.seats;
  favoured = c.favoured;
  closed = c.closed;
  abandoned = abandoned;
  prepared = prepared;
  now = now;
}

-- empty waits, with room for the Yields that a Gain may come behind
abbrev pub IsSpare : WaitList → Type 0
IsSpare w = (w.items ≡ []) × (7 ≤ w.room)

-- the crew with more room for entries and console bytes, and nothing else
pub record IsRoomier (old new : Crew) : Type 0 where
  pub same : new ≡ record old {
    seats = new.seats;
    backing = record old.backing {
      devices = record old.backing.devices { spare = new.backing.devices.spare };
    };
  }
  pub seats : map without_room new.seats ≡ map without_room old.seats

-- there is room for one turn
pub record IsReady (c : Crew) (spare : List WaitList) (journal turns : Rows ℕ) : Type 0 where
  pub lanes : HasRoomForAll 12 c.seats
  pub waits : 2 ≤ length spare
  pub bytes : 0 < c.backing.devices.spare
  pub journal_room : length journal.rows < journal.room
  pub turns_room : length turns.rows < turns.room

-- the crew stands for the board of this plain data, to which turns led
pub record IsSeenAs (c : Crew) (spare : List WaitList) (journal turns : Rows ℕ) (p : Plain) : Type 0 where
  pub terms : terms_of c ≡ boards.terms_of p
  pub most : p.limit ≤ most_moves
  pub stands : Stands c (board_of p spent)
  pub board : IsBoardOf p
  pub empty : All IsSpare spare
  pub ready : IsTrue p.prepared → IsReady c spare journal turns
