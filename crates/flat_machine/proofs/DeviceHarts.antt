-- An access leaves the number of harts of the devices.
use Rattle.std.proofs.Common.{◌≡◌, ℕ, refl, ◌∙◌, ap, true, false, Bool, cond}
use Rattle.std.specs.Prelude.{Option, Some, None, nat_le}
use Rattle.std.specs.Option.{option_and_then}
use Rattle.rv_words.specs.Words.{low_half, high_half}
use Rattle.rv_words.specs.Addresses.{device_word}
use Rattle.rv_words.specs.declared.shared.Access.{Access}
use Rattle.rv_words.specs.declared.shared.Input.{Input}
use Rattle.rv_words.specs.declared.shared.Input.TheVariants.{Nothing, Empty, Byte, Time}
use Rattle.rv_words.specs.declared.shared.DeviceWord.{DeviceWord}
use Rattle.rv_words.specs.declared.shared.DeviceWord.TheVariants.{Msip, CompareLow, CompareHigh, TimeLow, TimeHigh, Rx, Tx, Stop}
use Rattle.device_board.specs.State.{Devices, with_time}
use Rattle.device_board.specs.Accesses.{timed, loaded, stored, word_touched, touched, MadeAgain}

abbrev KeepsHarts : Devices → Option (Devices × ℕ) → Type 0
KeepsHarts d None = Unit {0}
KeepsHarts d (Some after) = after.0.harts ≡ d.harts

timed_when : (d : Devices) (t half : ℕ) (b : Bool) → KeepsHarts d (cond b (Some (with_time t d, half)) None)
timed_when d t half true = refl
timed_when d t half false = tt

timed_keeps : (d : Devices) (t half : ℕ) → KeepsHarts d (timed d t half)
timed_keeps d t half = timed_when d t half (nat_le d.mtime t)

loaded_keeps : (d : Devices) (word : DeviceWord) (input : Input) → KeepsHarts d (loaded d word input)
loaded_keeps d (Msip h) Nothing = refl
loaded_keeps d (Msip h) Empty = tt
loaded_keeps d (Msip h) (Byte b) = tt
loaded_keeps d (Msip h) (Time t) = tt
loaded_keeps d (CompareLow h) Nothing = refl
loaded_keeps d (CompareLow h) Empty = tt
loaded_keeps d (CompareLow h) (Byte b) = tt
loaded_keeps d (CompareLow h) (Time t) = tt
loaded_keeps d (CompareHigh h) Nothing = refl
loaded_keeps d (CompareHigh h) Empty = tt
loaded_keeps d (CompareHigh h) (Byte b) = tt
loaded_keeps d (CompareHigh h) (Time t) = tt
loaded_keeps d TimeLow Nothing = tt
loaded_keeps d TimeLow Empty = tt
loaded_keeps d TimeLow (Byte b) = tt
loaded_keeps d TimeLow (Time t) = timed_keeps d t (low_half t)
loaded_keeps d TimeHigh Nothing = tt
loaded_keeps d TimeHigh Empty = tt
loaded_keeps d TimeHigh (Byte b) = tt
loaded_keeps d TimeHigh (Time t) = timed_keeps d t (high_half t)
loaded_keeps d Rx Nothing = tt
loaded_keeps d Rx Empty = refl
loaded_keeps d Rx (Byte b) = refl
loaded_keeps d Rx (Time t) = tt
loaded_keeps d Tx Nothing = refl
loaded_keeps d Tx Empty = tt
loaded_keeps d Tx (Byte b) = tt
loaded_keeps d Tx (Time t) = tt
loaded_keeps d Stop Nothing = refl
loaded_keeps d Stop Empty = tt
loaded_keeps d Stop (Byte b) = tt
loaded_keeps d Stop (Time t) = tt

stored_keeps : (d : Devices) (word : DeviceWord) (v : ℕ) → (stored d word v).harts ≡ d.harts
stored_keeps d (Msip h) v = refl
stored_keeps d (CompareLow h) v = refl
stored_keeps d (CompareHigh h) v = refl
stored_keeps d TimeLow v = refl
stored_keeps d TimeHigh v = refl
stored_keeps d Rx v = refl
stored_keeps d Tx v = refl
stored_keeps d Stop v = refl

word_keeps : (d : Devices) (word : DeviceWord) (store : Option ℕ) (input : Input) → KeepsHarts d (word_touched d word store input)
word_keeps d word None input = loaded_keeps d word input
word_keeps d word (Some v) Nothing = stored_keeps d word v
word_keeps d word (Some v) Empty = tt
word_keeps d word (Some v) (Byte b) = tt
word_keeps d word (Some v) (Time t) = tt

touched_at : (d : Devices) (access : Access) (input : Input) (word : Option DeviceWord)
    → KeepsHarts d (option_and_then (λ w. word_touched d w access.store input) word)
touched_at d access input None = tt
touched_at d access input (Some word) = word_keeps d word access.store input

touched_keeps : (d : Devices) (access : Access) (input : Input) → KeepsHarts d (touched d access input)
touched_keeps d access input = touched_at d access input (device_word d.harts access.at)

again_keeps : (o : Option (Devices × ℕ)) (old new : Devices) (answer : Option ℕ) → KeepsHarts old o → MadeAgain o old new answer → new.harts ≡ old.harts
again_keeps None old new answer k m = ap (λ (d : Devices). d.harts) m.1
again_keeps (Some after) old new answer k m = ap (λ (d : Devices). d.harts) m.1 ∙ k

-- devices that made an access again have the harts that they had
pub touch_keeps_harts : (old new : Devices) (access : Access) (input : Input) (answer : Option ℕ) → MadeAgain (touched old access input) old new answer
    → new.harts ≡ old.harts
touch_keeps_harts old new access input answer m = again_keeps (touched old access input) old new answer (touched_keeps old access input) m
