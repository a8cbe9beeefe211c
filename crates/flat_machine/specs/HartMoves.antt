-- What the calls that make a hart's move, or find its device access, answer and leave.
use Rattle.std.specs.Prelude.{ℕ, ◌≡◌, List, Option, Some, None, IsSome, is_some, true, false}
use Rattle.rv_words.specs.Addresses.{device_word}
use Rattle.rv_words.specs.declared.shared.Access.{Access}
use Rattle.rv_hart.specs.Effects.{effect_of}
use Rattle.rv_hart.specs.State.{Hart}
use Rattle.rv_hart.specs.Moves.{after, written, need_of}
use Rattle.rv_hart.specs.declared.effect.Effect.{Effect}
use Rattle.rv_hart.specs.declared.effect.Wrote.{Wrote}
use Rattle.flat_machine.specs.Moves.{next_move, loaded_for, access_of, stored_by}

-- a hart and its memory after the move, or as they were where that is a device access
abbrev pub HartMoved : Hart → List ℕ → Effect → Hart → List ℕ → Option Wrote → Type 0
HartMoved x memory effect y after_it None = (is_some (access_of (need_of effect)) ≡ true) × (y ≡ x) × (after_it ≡ memory)
HartMoved x memory effect y after_it (Some wrote) =
    (is_some (access_of (need_of effect)) ≡ false)
    × (wrote ≡ written effect (loaded_for memory (need_of effect)))
    × (y ≡ after x effect (loaded_for memory (need_of effect)))
    × (after_it ≡ stored_by memory wrote)

-- the fetched word and the device access of the next move, where it is one
abbrev pub FindsAccess : Hart → List ℕ → Option (ℕ × Access) → Type 0
FindsAccess x memory None = access_of (need_of (next_move x memory)) ≡ None
FindsAccess x memory (Some found) =
    (next_move x memory ≡ effect_of x found.0)
    × (access_of (need_of (effect_of x found.0)) ≡ Some found.1)
    × IsSome (device_word x.harts found.1.at)
