-- What an access of a device word asks of console and clock when a run is recorded, and the input that it has so.
use Rattle.std.specs.Prelude.{ℕ, ◌≡◌, ◌++◌, ◌%◌, ◌^◌, max, Bool, true, false, Option, Some, None, List, [], ◌∷◌, IsTrue, IfSome}
use Rattle.rv_words.specs.Addresses.{device_word}
use Rattle.rv_words.specs.declared.shared.Access.{Access}
use Rattle.rv_words.specs.declared.shared.Input.{Input}
use Rattle.rv_words.specs.declared.shared.Input.TheVariants.{Nothing, Empty, Byte, Time}
use Rattle.rv_words.specs.declared.shared.DeviceWord.{DeviceWord}
use Rattle.rv_words.specs.declared.shared.DeviceWord.TheVariants.{TimeLow, TimeHigh, Rx, Tx}
use Rattle.outside.specs.Seen.{SeenConsole, Takes}
use Rattle.outside.specs.declared.console.Asked.{Asked}
use Rattle.outside.specs.declared.console.Asked.TheVariants as said
use Rattle.device_board.specs.State.{Devices}

-- what the console answers is the input of a load of RX; the end of its input is no byte
abbrev pub input_of : Asked → Input
input_of (said.Byte b) = Byte b
input_of said.Nothing = Empty
input_of said.End = Empty

-- the input of an access, where mtime is `mtime`, the clock answered `now`, and the console answers `a`
abbrev pub recorded_input : DeviceWord → Option ℕ → ℕ → ℕ → Asked → Input
recorded_input Rx None mtime now a = input_of a
recorded_input TimeLow None mtime now a = Time (max mtime now)
recorded_input TimeHigh None mtime now a = Time (max mtime now)
recorded_input word store mtime now a = Nothing

-- the answers that the access takes of the console: the one answer for a load of RX
abbrev pub answers_taken : DeviceWord → Option ℕ → Asked → List Asked
answers_taken Rx None a = a ∷ []
answers_taken word store a = []

-- the bytes that the access gives to the console: the low byte for a store to TX
abbrev pub bytes_given : DeviceWord → Option ℕ → List ℕ
bytes_given Tx (Some v) = v % 2 ^ 8 ∷ []
bytes_given word store = []

-- the access is one for which the console is called
abbrev pub uses_console : DeviceWord → Option ℕ → Bool
uses_console Rx None = true
uses_console Tx (Some v) = true
uses_console word store = false

-- the input that an access of a word has, and the answer that the console gave for it
abbrev pub WordHas : DeviceWord → Option ℕ → ℕ → ℕ → SeenConsole → SeenConsole → Input → Type 0
WordHas word store mtime now c d input =
    (a : Asked) × (input ≡ recorded_input word store mtime now a)
    × (IsTrue d.tells_answers → d.answers ≡ c.answers ++ answers_taken word store a)

-- the same of an access of the devices
abbrev pub AccessHas : Devices → Access → ℕ → SeenConsole → SeenConsole → Input → Type 0
AccessHas devices access now c d input =
    IfSome (device_word devices.harts access.at) (λ word. WordHas word access.store devices.mtime now c d input)

-- the console took the bytes that the access gives it
abbrev pub AccessGives : Devices → Access → SeenConsole → SeenConsole → Type 0
AccessGives devices access c d = IfSome (device_word devices.harts access.at) (λ word. Takes (bytes_given word access.store) c d)

-- the access is one for which the console is called
abbrev pub AccessUsesConsole : Devices → Access → Type 0
AccessUsesConsole devices access = IfSome (device_word devices.harts access.at) (λ word. IsTrue (uses_console word access.store))
