-- What answers of a clock make of the time, and what a store leaves of it.
use Rattle.std.proofs.Common.{◌≡◌, ℕ, max, List, [], ◌∷◌, ◌++◌, refl, ap}
use Rattle.rv_words.specs.declared.shared.DeviceWord.{DeviceWord}
use Rattle.rv_words.specs.declared.shared.DeviceWord.TheVariants.{Msip, CompareLow, CompareHigh, TimeLow, TimeHigh, Rx, Tx, Stop}
use Rattle.device_board.specs.State.{Devices}
use Rattle.device_board.specs.Accesses.{stored}
use Rattle.replay_model.specs.Inputs.{times_from, time_after}

pub times_append : (time : ℕ) (xs ys : List ℕ) → times_from time (xs ++ ys) ≡ times_from time xs ++ times_from (time_after time xs) ys
times_append time [] ys = refl
times_append time (x ∷ xs) ys = ap (λ l. max x time ∷ l) (times_append (max x time) xs ys)

pub after_append : (time : ℕ) (xs ys : List ℕ) → time_after time (xs ++ ys) ≡ time_after (time_after time xs) ys
after_append time [] ys = refl
after_append time (x ∷ xs) ys = after_append (max x time) xs ys

pub store_on : (d : Devices) (word : DeviceWord) (v : ℕ) → (stored d word v).mtime ≡ d.mtime
store_on d (Msip h) v = refl
store_on d (CompareLow h) v = refl
store_on d (CompareHigh h) v = refl
store_on d TimeLow v = refl
store_on d TimeHigh v = refl
store_on d Rx v = refl
store_on d Tx v = refl
store_on d Stop v = refl
