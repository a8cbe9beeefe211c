-- What stands at an address of a board with so many pages and harts: memory, a device word, or nothing. Memory
-- begins at 0x80000000. The layout is this board's own (docs/board.md); timer and software interrupts lie as in
-- the layout known as CLINT.
use Rattle.std.specs.Prelude.{ℕ, ◌+◌, ◌-◌, ◌*◌, ◌/◌, ◌%◌, ◌==◌, ◌<◌, ◌≤◌, nat_le, nat_lt, Bool, ◌&&◌, if◌then◌else◌, Option, Some, None, is_some}
use Rattle.rv_words.specs.Limits.{page_bytes}
use Rattle.rv_words.specs.declared.shared.DeviceWord.{DeviceWord}
use Rattle.rv_words.specs.declared.shared.DeviceWord.TheVariants.{Msip, CompareLow, CompareHigh, TimeLow, TimeHigh, Rx, Tx, Stop}
use Rattle.rv_words.specs.declared.shared.Place.{Place}
use Rattle.rv_words.specs.declared.shared.Place.TheVariants.{Memory, Device, Outside}

-- the address is that of a byte of memory
abbrev pub in_memory : ℕ → ℕ → Bool
in_memory pages at = nat_le 0x80000000 at && nat_lt at (0x80000000 + page_bytes * pages)

-- `size` bytes from an address on lie in memory
abbrev pub LiesInMemory : ℕ → ℕ → ℕ → Type 0
LiesInMemory pages at size = (0x80000000 ≤ at) × (at + size ≤ 0x80000000 + page_bytes * pages)

-- one word for each hart: the first stands at `first`, the next ones `step` bytes on
abbrev pub in_row : ℕ → ℕ → ℕ → ℕ → Bool
in_row first step harts at = nat_le first at && (at - first) % step == 0 && nat_lt ((at - first) / step) harts

-- the hart whose word of the row stands there
abbrev pub hart_in_row : ℕ → ℕ → ℕ → ℕ
hart_in_row first step at = (at - first) / step

-- The device word at an address: msip of each hart, the halves of mtimecmp of each hart and of mtime, and
-- the console's RX, TX and STOP.
abbrev pub device_word : ℕ → ℕ → Option DeviceWord
device_word harts at =
    if in_row 0x02000000 4 harts at then Some (Msip (hart_in_row 0x02000000 4 at))
    else if in_row 0x02004000 8 harts at then Some (CompareLow (hart_in_row 0x02004000 8 at))
    else if in_row 0x02004004 8 harts at then Some (CompareHigh (hart_in_row 0x02004004 8 at))
    else if at == 0x0200BFF8 then Some TimeLow
    else if at == 0x0200BFFC then Some TimeHigh
    else if at == 0x10000000 then Some Rx
    else if at == 0x10000004 then Some Tx
    else if at == 0x10000008 then Some Stop
    else None

-- the page of memory, a device word, or neither
abbrev pub place_of : ℕ → ℕ → ℕ → Place
place_of pages harts at =
    if in_memory pages at then Memory ((at - 0x80000000) / page_bytes)
    else if is_some (device_word harts at) then Device
    else Outside

-- the word is one of a hart that the board has, or no hart's
abbrev pub IsOfHart : ℕ → DeviceWord → Type 0
IsOfHart harts (Msip h) = h < harts
IsOfHart harts (CompareLow h) = h < harts
IsOfHart harts (CompareHigh h) = h < harts
IsOfHart harts word = Unit {0}
