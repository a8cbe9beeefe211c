-- What the writer asks of the values that it writes, and what it says of them: that they fit the widths of their fields.
use Rattle.std.specs.Prelude.{◌<◌, ◌^◌, List, length, All}
use Rattle.rv_words.specs.declared.shared.Input.{Input}
use Rattle.rv_words.specs.declared.shared.Input.TheVariants.{Nothing, Empty, Byte, Time}
use Rattle.log_entry.specs.declared.waits.WaitFor.{WaitFor}
use Rattle.log_entry.specs.declared.log.Entry.{Entry}
use Rattle.log_entry.specs.declared.log.Entry.TheVariants.{Gain, Yield, Poll, Touch, End}

abbrev pub IsSpellable : Entry → Type 0
IsSpellable (Gain count page seq mode waits) = page < 2 ^ 16
IsSpellable (Yield count page seq left) = page < 2 ^ 16
IsSpellable (Poll count ord time bits) = Unit {0}
IsSpellable (Touch count ord input) = Unit {0}
IsSpellable (End count) = Unit {0}

pub record IsSpellableStream (stream : List Entry) : Type 0 where
  pub short : length stream < 2 ^ 32
  pub entries : All IsSpellable stream

-- ---- what the types of the fields say, of values in a list too

abbrev pub IsNarrowInput : Input → Type 0
IsNarrowInput Nothing = Unit {0}
IsNarrowInput Empty = Unit {0}
IsNarrowInput (Byte byte) = byte < 2 ^ 8
IsNarrowInput (Time time) = time < 2 ^ 64

abbrev pub IsNarrowWait : WaitFor → Type 0
IsNarrowWait wait = wait.count < 2 ^ 64

abbrev pub IsNarrow : Entry → Type 0
IsNarrow (Gain count page seq mode waits) = (count < 2 ^ 64) × (seq < 2 ^ 32) × All IsNarrowWait waits.items
IsNarrow (Yield count page seq left) = (count < 2 ^ 64) × (seq < 2 ^ 32)
IsNarrow (Poll count ord time bits) = (count < 2 ^ 64) × (ord < 2 ^ 32) × (time < 2 ^ 64)
IsNarrow (Touch count ord input) = (count < 2 ^ 64) × (ord < 2 ^ 32) × IsNarrowInput input
IsNarrow (End count) = count < 2 ^ 64
