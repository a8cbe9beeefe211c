-- The harts of the board can make the acts of a turn.
use Rattle.std.proofs.Common.{◌≡◌, ℕ, ◌<◌, ◌≤◌, ◌||◌, false, max, Option, Some, None, slice_get, refl}
use Rattle.std.proofs.Common.{ap, ap₂, ◌∙◌, arith, if◌then◌else◌}
use Rattle.std.specs.Option.{option_map, option_and_then}
use Rattle.std.proofs.lemmas.Bool.{le-ltb, le-leb}
use Rattle.rv_words.specs.Addresses.{device_word}
use Rattle.rv_words.specs.declared.shared.Access.{Access}
use Rattle.rv_words.specs.declared.shared.DeviceWord.{DeviceWord}
use Rattle.rv_words.specs.declared.shared.DeviceWord.TheVariants as words
use Rattle.rv_hart.specs.State.{Hart}
use Rattle.rv_hart.specs.Moves.{need_of}
use Rattle.outside.specs.declared.console.Asked.{Asked}
use Rattle.outside.specs.declared.console.Asked.TheVariants as said
use Rattle.device_board.specs.State.{Devices, with_time}
use Rattle.device_board.specs.Accesses.{touched, word_touched, timed}
use Rattle.device_board.specs.Recording.{recorded_input}
use Rattle.flat_machine.specs.State.{FlatState}
use Rattle.flat_machine.specs.Moves.{next_move, access_of}
use Rattle.flat_machine.specs.Acts.{next, touch_made, accessed, poll_made, polled, lost}
use Rattle.flat_machine.specs.declared.act.Act.TheVariants.{Touch, Poll, Lose}
use Rattle.replay_model.specs.Board.{board, next_access, hart_access}
use Rattle.shared_types.proofs.Lists.{mapped, bound_to, found_at}
use Rattle.turn_model.specs.Recordable.{board_machine}
use Rattle.turn_model.specs.Laws.{IsPagedBoard}
use Rattle.round_progress.proofs.Demands.{IsAnswering, IsThere}

timed_there : (d : Devices) (now half : ℕ) → IsThere (timed d (max d.mtime now) half)
timed_there d now half =
    let made : Option (Devices × ℕ) = Some (with_time (max d.mtime now) d, half) in
    ((with_time (max d.mtime now) d, half), ap (λ b. if b then made else None) (le-leb d.mtime (max d.mtime now) (omega arith)))

-- what is recorded suits
suits : (d : Devices) (word : DeviceWord) (store : Option ℕ) (now : ℕ) (answer : Asked)
    → IsThere (word_touched d word store (recorded_input word store d.mtime now answer))
suits d (words.Msip h) None now answer = (_, refl)
suits d (words.CompareLow h) None now answer = (_, refl)
suits d (words.CompareHigh h) None now answer = (_, refl)
suits d words.TimeLow None now answer = timed_there d now _
suits d words.TimeHigh None now answer = timed_there d now _
suits d words.Rx None now (said.Byte b) = (_, refl)
suits d words.Rx None now said.Nothing = (_, refl)
suits d words.Rx None now said.End = (_, refl)
suits d words.Tx None now answer = (_, refl)
suits d words.Stop None now answer = (_, refl)
suits d (words.Msip h) (Some v) now answer = (_, refl)
suits d (words.CompareLow h) (Some v) now answer = (_, refl)
suits d (words.CompareHigh h) (Some v) now answer = (_, refl)
suits d words.TimeLow (Some v) now answer = (_, refl)
suits d words.TimeHigh (Some v) now answer = (_, refl)
suits d words.Rx (Some v) now answer = (_, refl)
suits d words.Tx (Some v) now answer = (_, refl)
suits d words.Stop (Some v) now answer = (_, refl)

module _ (unit harts pages : ℕ) where
  hart_there : (s : FlatState) (h : ℕ) → IsPagedBoard harts pages s → h < harts → (x : Hart) × (slice_get s.harts h ≡ Some x)
  hart_there s h on inside = found_at s.harts h (let z = on.harts_size in omega (arith, z, inside))

  polls_there : (s : FlatState) (h time : ℕ) → IsPagedBoard harts pages s → h < harts → (board unit).is_stopped s ≡ false → (board unit).time s ≤ time
      → IsThere (next (Poll h time) s)
  polls_there s h time on inside running l =
      let x = hart_there s h on inside in
      let made : Option FlatState = Some (polled s h x.0 (with_time time s.devices)) in (
        polled s h x.0 (with_time time s.devices),
        ap (option_and_then (poll_made s h time)) x.1 ∙ ap₂ (λ a b. if a || b then None else made) running (le-ltb time s.devices.mtime l),
      )

  loses_there : (s : FlatState) (h : ℕ) → IsPagedBoard harts pages s → h < harts → IsThere (next (Lose h) s)
  loses_there s h on inside = let x = hart_there s h on inside in (lost s h x.0, ap (option_map (lost s h)) x.1)

  touches_there : (s : FlatState) (h : ℕ) (word : DeviceWord) (store : Option ℕ) (now : ℕ) (answer : Asked) → (board unit).is_stopped s ≡ false
      → (board_machine unit).access s h ≡ Some (word, store)
      → IsThere (next (Touch h (recorded_input word store ((board unit).time s) now answer)) s)
  touches_there s h word store now answer running access =
      let input = recorded_input word store s.devices.mtime now answer in
      let a = bound_to (λ (a : Access). option_map (λ word. (word, a.store)) (device_word s.devices.harts a.at)) (hart_access s h) (word, store) access in
      let w = mapped (λ (w : DeviceWord). (w, a.0.store)) (device_word s.devices.harts a.0.at) (word, store) a.2 in
      let x = bound_to (λ x. next_access x s.memory) (slice_get s.harts h) a.0 a.1 in
      let own_word : w.0 ≡ word = ap (λ (p : DeviceWord × Option ℕ). p.0) w.2 in
      let own_store : a.0.store ≡ store = ap (λ (p : DeviceWord × Option ℕ). p.1) w.2 in
      let u = suits s.devices word store now answer in
      let done : touched s.devices a.0 input ≡ Some u.0 =
      ap (option_and_then (λ word. word_touched s.devices word a.0.store input)) w.1 ∙ ap₂ (λ p q. word_touched s.devices p q input) own_word own_store
      ∙ u.1 in (
        accessed s h x.0 (next_move x.0 s.memory) u.0,
        ap (option_and_then (λ x. touch_made s h input x (next_move x s.memory))) x.1
            ∙ ap (λ b. if b then None else option_map (accessed s h x.0 (next_move x.0 s.memory))
            (option_and_then (λ access. touched s.devices access input) (access_of (need_of (next_move x.0 s.memory))))) running
            ∙ ap (λ o. option_map (accessed s h x.0 (next_move x.0 s.memory)) (option_and_then (λ access. touched s.devices access input) o)) x.2
            ∙ ap (option_map (accessed s h x.0 (next_move x.0 s.memory))) done,
      )

pub board_answers : (unit harts pages : ℕ) → IsAnswering (board_machine unit) harts (IsPagedBoard harts pages)
board_answers unit harts pages = record {
  polls = λ s h time on inside running l. polls_there unit harts pages s h time on inside running l;
  loses = λ s h on inside. loses_there unit harts pages s h on inside;
  touches = λ s h word store now answer on inside running access. touches_there unit harts pages s h word store now answer running access;
}
