-- What an entry says, part by part.
use Rattle.std.specs.Prelude.{ℕ, Bool, true, false, Option, Some, None}
use Rattle.rv_words.specs.declared.shared.Mode.{Mode}
use Rattle.rv_words.specs.declared.shared.Mode.TheVariants.{Read, Write}
use Rattle.rv_words.specs.declared.shared.Input.{Input}
use Rattle.rv_words.specs.declared.shared.Input.TheVariants.{Time}
use Rattle.rv_words.specs.Modes.{conflicts}
use Rattle.rv_words.specs.Limits.{page_bytes}
use Rattle.log_entry.specs.declared.log.Entry.{Entry}
use Rattle.log_entry.specs.declared.log.Entry.TheVariants.{Gain, Yield, Poll, Touch, End}
use Rattle.log_entry.specs.declared.log.Log.{Log}

-- the bytes of a page, as entries number pages
abbrev pub unit_of : Log → ℕ
unit_of log = page_bytes

-- how many such pages the memory has
abbrev pub units_of : Log → ℕ
units_of log = log.pages

abbrev pub count_of : Entry → ℕ
count_of (Gain count page seq mode waits) = count
count_of (Yield count page seq left) = count
count_of (Poll count ord time bits) = count
count_of (Touch count ord input) = count
count_of (End count) = count

abbrev pub is_end : Entry → Bool
is_end (End count) = true
is_end _ = false

abbrev pub is_poll : Entry → Bool
is_poll (Poll count ord time bits) = true
is_poll _ = false

abbrev pub is_touch : Entry → Bool
is_touch (Touch count ord input) = true
is_touch _ = false

-- a page and the entry's number among the entries of that page, of a Gain or a Yield
abbrev pub page_number : Entry → Option (ℕ × ℕ)
page_number (Gain count page seq mode waits) = Some (page, seq)
page_number (Yield count page seq left) = Some (page, seq)
page_number _ = None

-- the ordinal of a Poll or a Touch
abbrev pub ordinal_of : Entry → Option ℕ
ordinal_of (Poll count ord time bits) = Some ord
ordinal_of (Touch count ord input) = Some ord
ordinal_of _ = None

abbrev pub time_of_input : Input → Option ℕ
time_of_input (Time time) = Some time
time_of_input _ = None

-- the time of a Poll or of a Time input
abbrev pub time_of : Entry → Option ℕ
time_of (Poll count ord time bits) = Some time
time_of (Touch count ord input) = time_of_input input
time_of _ = None

-- what a hart holds of the page after its Gain or Yield
abbrev pub holds_then : Entry → Option Mode
holds_then (Gain count page seq mode waits) = Some mode
holds_then (Yield count page seq left) = left
holds_then _ = None

-- how much a hold is worth: nothing, Read, Write
abbrev pub strength : Option Mode → ℕ
strength None = 0
strength (Some Read) = 1
strength (Some Write) = 2

-- two holds of one page that can't stand together: both hold something, in modes that conflict
abbrev pub conflict : Option Mode → Option Mode → Bool
conflict (Some one) (Some other) = conflicts one other
conflict _ _ = false

-- there is a value, and it passes the test
abbrev pub is_some_and : {X : Type 0} → Option X → (X → Bool) → Bool
is_some_and None test = false
is_some_and (Some x) test = test x
