-- What a load or a store of each device word does, and which inputs from outside suit it (docs/board.md).
use Rattle.std.specs.Prelude.{ℕ, ◌≡◌, ◌+◌, ◌%◌, ◌^◌, nat_le, Bool, true, false, if◌then◌else◌, Option, Some, None, [], ◌∷◌, ◌++◌, slice_set, length, IfSome}
use Rattle.std.specs.Prelude.{IsTrue, ◌<◌}
use Rattle.std.specs.Option.{option_and_then}
use Rattle.rv_words.specs.Words.{bit, has_bit, low_half, high_half, with_low_half, with_high_half}
use Rattle.rv_words.specs.Addresses.{device_word}
use Rattle.rv_words.specs.declared.shared.Access.{Access}
use Rattle.rv_words.specs.declared.shared.Input.{Input}
use Rattle.rv_words.specs.declared.shared.Input.TheVariants.{Nothing, Empty, Byte, Time}
use Rattle.rv_words.specs.declared.shared.DeviceWord.{DeviceWord}
use Rattle.rv_words.specs.declared.shared.DeviceWord.TheVariants.{Msip, CompareLow, CompareHigh, TimeLow, TimeHigh, Rx, Tx, Stop}
use Rattle.device_board.specs.State.{Devices, DevicesWithRoom, msip_of, mtimecmp_of, with_time}

-- a load of a half of mtime at a time: mtime becomes that time
abbrev pub timed : Devices → ℕ → ℕ → Option (Devices × ℕ)
timed d t half = if nat_le d.mtime t then Some (with_time t d, half) else None

-- the devices after a load and the loaded word, where the input suits
abbrev pub loaded : Devices → DeviceWord → Input → Option (Devices × ℕ)
loaded d (Msip h) Nothing = Some (d, bit (msip_of d h) 0)
loaded d (CompareLow h) Nothing = Some (d, low_half (mtimecmp_of d h))
loaded d (CompareHigh h) Nothing = Some (d, high_half (mtimecmp_of d h))
loaded d TimeLow (Time t) = timed d t (low_half t)
loaded d TimeHigh (Time t) = timed d t (high_half t)
loaded d Rx (Byte b) = Some (d, b)
loaded d Rx Empty = Some (d, 0xFFFFFFFF)
loaded d Tx Nothing = Some (d, 0)
loaded d Stop Nothing = Some (d, 0)
loaded d word input = None

-- the devices after a store
abbrev pub stored : Devices → DeviceWord → ℕ → Devices
stored d (Msip h) v = record d { msip = slice_set d.msip h (has_bit v 0) }
stored d (CompareLow h) v = record d { mtimecmp = slice_set d.mtimecmp h (with_low_half (mtimecmp_of d h) v) }
stored d (CompareHigh h) v = record d { mtimecmp = slice_set d.mtimecmp h (with_high_half (mtimecmp_of d h) v) }
stored d TimeLow v = d
stored d TimeHigh v = d
stored d Rx v = d
stored d Tx v = record d { sent = d.sent ++ v % 2 ^ 8 ∷ [] }
stored d Stop v = record d { stop = Some v }

-- an access of a word: Nothing alone suits a store, and 0 stands for what it loads
abbrev pub word_touched : Devices → DeviceWord → Option ℕ → Input → Option (Devices × ℕ)
word_touched d word None input = loaded d word input
word_touched d word (Some v) Nothing = Some (stored d word v, 0)
word_touched d word (Some v) input = None

-- the devices after an access and what it loaded, where it is a device word's and the input suits
abbrev pub touched : Devices → Access → Input → Option (Devices × ℕ)
touched d access input = option_and_then (λ word. word_touched d word access.store input) (device_word d.harts access.at)

-- what a call that makes an access again answers and leaves
abbrev pub MadeAgain : Option (Devices × ℕ) → Devices → Devices → Option ℕ → Type 0
MadeAgain None old new answer = (answer ≡ None) × (new ≡ old)
MadeAgain (Some after) old new answer = (answer ≡ Some after.1) × (new ≡ after.0)

-- the access sends a byte to the console: it is a store to TX
abbrev pub sends : DeviceWord → Option ℕ → Bool
sends Tx (Some v) = true
sends word store = false

-- there is room for the byte that the access sends, where it sends one
abbrev pub HasRoom : DevicesWithRoom → Access → Type 0
HasRoom b access = IfSome (device_word b.devices.harts access.at) (λ word. IsTrue (sends word access.store) → 0 < b.spare)

-- a byte that was sent took the room of one byte, and nothing else took or gave any
abbrev pub RoomIsKept : DevicesWithRoom → DevicesWithRoom → Type 0
RoomIsKept old new = length new.devices.sent + new.spare ≡ length old.devices.sent + old.spare
