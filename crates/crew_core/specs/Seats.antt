-- What the board keeps of each hart.
use Rattle.std.specs.Prelude.{ℕ, ◌+◌, ◌≤◌, length, ◌++◌, ◌∷◌, List, [], slice_get, slice_set, Some, None, unwrap_or, ◌<◌, ◌==◌, Bool}
use Rattle.log_entry.specs.declared.log.Entry.{Entry}
use Rattle.crew_core.specs.declared.order.Order.{Order}
use Rattle.crew_core.specs.declared.seat.Seat.{Seat}
use Rattle.crew_core.specs.Orders.{told_of}
use Rattle.crew_parts.specs.Parts.{until_by}

-- a seat of no hart
abbrev pub no_seat : Seat
no_seat = record { lane = record { entries = []; room = 0 }; count = 0; polled = None; order = None }

abbrev pub seat_of : List Seat → ℕ → Seat
seat_of seats h = unwrap_or (slice_get seats h) no_seat

abbrev pub with_entry : Entry → Seat → Seat
with_entry e s = record s { lane = record s.lane { entries = s.lane.entries ++ e ∷ [] } }

-- the seats once a hart made an entry
abbrev pub entered_at : ℕ → Entry → List Seat → List Seat
entered_at h e seats = slice_set seats h (with_entry e (seat_of seats h))

-- the seats once a hart's turns committed so many moves
abbrev pub counted_at : ℕ → ℕ → List Seat → List Seat
counted_at h count seats = slice_set seats h (record (seat_of seats h) { count = count })

-- the seats once a hart was told how it goes on
abbrev pub told_at : ℕ → Order → List Seat → List Seat
told_at h order seats = slice_set seats h (record (seat_of seats h) { order = Some order })

-- the count up to which the hart may move before its next turn
abbrev pub reach : Seat → ℕ
reach s = until_by s.count (told_of s.order)

-- a hart's list has room for so many more entries
abbrev pub HasRoomFor : ℕ → List Seat → ℕ → Type 0
HasRoomFor n seats h = length (seat_of seats h).lane.entries + n ≤ (seat_of seats h).lane.room

-- the seats once a hart made a Poll at a count
abbrev pub polled_at : ℕ → Entry → ℕ → List Seat → List Seat
polled_at h e count seats = slice_set seats h (record (with_entry e (seat_of seats h)) { polled = Some count })

-- the seats once a hart made a Touch
abbrev pub touched_at : ℕ → Entry → List Seat → List Seat
touched_at h e seats = slice_set seats h (record (with_entry e (seat_of seats h)) { count = (seat_of seats h).count + 1 })

-- one entry was added at most
abbrev pub KeepsRoom : List Seat → List Seat → ℕ → Type 0
KeepsRoom old new h = (n : ℕ) → HasRoomFor (n + 1) old h → HasRoomFor n new h

abbrev pub HasRoomForAll : ℕ → List Seat → Type 0
HasRoomForAll n seats = (h : ℕ) → h < length seats → HasRoomFor n seats h

-- a seat but for how many entries it has room
abbrev pub without_room : Seat → Seat
without_room s = record s { lane = record s.lane { room = 0 } }

-- the turns of its hart committed so many moves
abbrev pub is_at : ℕ → Seat → Bool
is_at n s = s.count == n
