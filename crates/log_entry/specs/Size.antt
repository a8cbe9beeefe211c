-- How many bytes the entries of a log take.
use Rattle.std.specs.Prelude.{ℕ, ◌+◌, ◌*◌, List, length, sum_by}
use Rattle.log_entry.specs.declared.log.Entry.{Entry}
use Rattle.log_entry.specs.declared.log.Entry.TheVariants.{Gain, Yield, Poll, Touch, End}

-- the bytes of an entry in a log of version 1
abbrev pub size_of : Entry → ℕ
size_of (Gain count page seq mode waits) = 17 + 9 * length waits.items
size_of (Yield count page seq left) = 16
size_of (Poll count ord time bits) = 22
size_of (Touch count ord input) = 22
size_of (End count) = 9

-- the bytes of an entry in the log of a board with such pages and so many harts
abbrev pub size_in : ℕ → ℕ → Entry → ℕ
size_in unit harts entry = size_of entry

-- the bytes of a log whose streams are Ends alone
abbrev pub frame_size : ℕ → ℕ → ℕ
frame_size unit harts = 49 + 13 * harts

-- the bytes of a stream: the number of its entries, and they
abbrev pub size_of_stream : ℕ → ℕ → List Entry → ℕ
size_of_stream unit harts stream = 4 + sum_by (size_in unit harts) stream

-- the bytes of a log with these streams: the head, the streams, the cause
abbrev pub size_of_log : ℕ → List (List Entry) → ℕ
size_of_log unit streams = 49 + sum_by (size_of_stream unit (length streams)) streams
