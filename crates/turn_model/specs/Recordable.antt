-- What a recorder asks of the flat machine.
use Rattle.std.specs.Prelude.{ℕ, List, Option}
use Rattle.std.specs.Option.{option_map, option_and_then}
use Rattle.rv_words.specs.Addresses.{device_word}
use Rattle.rv_words.specs.declared.shared.DeviceWord.{DeviceWord}
use Rattle.flat_machine.specs.State.{FlatState}
use Rattle.flat_machine.specs.declared.results.Step.{Step}
use Rattle.replay_model.specs.Flat.{Flat}
use Rattle.replay_model.specs.Board.{board, hart_access}

-- what a replay asks, and which device word a hart's next move accesses, with the word that it stores there, if any
pub record Recordable (S V : Type 0) : Type 0 where
  pub flat : Flat S V
  pub access : S → ℕ → Option (DeviceWord × Option ℕ)

-- pages are of so many bytes
abbrev pub board_machine : ℕ → Recordable FlatState (List Step)
board_machine unit = record {
  flat = board unit;
  access = λ s h. option_and_then (λ a. option_map (λ word. (word, a.store)) (device_word s.devices.harts a.at)) (hart_access s h);
}
