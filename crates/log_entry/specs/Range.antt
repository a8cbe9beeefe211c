-- The values that a log of version 1 can have.
use Rattle.std.specs.Prelude.{ℕ, ◌&&◌, ◌^◌, nat_lt, nat_le, Bool, true, false, Option, Some, None, List, length}
use Rattle.std.specs.List.{list_all}
use Rattle.rv_words.specs.declared.shared.Mode.{Mode}
use Rattle.rv_words.specs.declared.shared.Mode.TheVariants.{Read, Write}
use Rattle.rv_words.specs.Limits.{most_pages, most_moves}
use Rattle.log_entry.specs.declared.waits.WaitFor.{WaitFor}
use Rattle.log_entry.specs.declared.log.Entry.{Entry}
use Rattle.log_entry.specs.declared.log.Entry.TheVariants.{Gain, Yield, Poll, Touch, End}
use Rattle.log_entry.specs.declared.log.Log.{Log}
use Rattle.log_entry.specs.Parts.{units_of}

-- a wait for a hart of the log
abbrev pub is_wait : ℕ → WaitFor → Bool
is_wait harts wait = nat_lt wait.hart harts

-- what a hart keeps as it yields: nothing or Read
abbrev pub is_left : Option Mode → Bool
is_left None = true
is_left (Some Read) = true
is_left (Some Write) = false

-- the page below the log's, at most seven waits and of harts below the log's, bits below 4
abbrev pub is_entry : ℕ → ℕ → Entry → Bool
is_entry harts units (Gain count page seq mode waits) = nat_lt page units && nat_le (length waits.items) 7 && list_all (is_wait harts) waits.items
is_entry harts units (Yield count page seq left) = nat_lt page units && is_left left
is_entry harts units (Poll count ord time bits) = nat_lt bits 4
is_entry harts units (Touch count ord input) = true
is_entry harts units (End count) = true

-- fewer than 2^32 entries, each in range
abbrev pub is_stream : ℕ → ℕ → List Entry → Bool
is_stream harts units stream = nat_lt (length stream) (2 ^ 32) && list_all (is_entry harts units) stream

-- one to eight harts, 1 to `most_pages` pages, a limit of at most 10^12, and each stream in range
abbrev pub in_range : Log → Bool
in_range log =
    nat_le 1 (length log.streams) && nat_le (length log.streams) 8
    && nat_le 1 log.pages && nat_le log.pages most_pages
    && nat_le log.limit most_moves
    && list_all (is_stream (length log.streams) (units_of log)) log.streams
