-- What a turn's progress asks of a machine.
use Rattle.std.specs.Prelude.{ℕ, ◌≡◌, ◌<◌, ◌≤◌, false, length, slice_get, Option, Some, None}
use Rattle.rv_words.specs.declared.shared.DeviceWord.{DeviceWord}
use Rattle.rv_hart.specs.State.{Hart}
use Rattle.outside.specs.declared.console.Asked.{Asked}
use Rattle.device_board.specs.Recording.{recorded_input}
use Rattle.flat_machine.specs.State.{FlatState}
use Rattle.flat_machine.specs.declared.act.Act.TheVariants.{Run, Touch, Poll, Lose}
use Rattle.turn_model.specs.Recordable.{Recordable}
use Rattle.turn_model.specs.Laws.{IsPagedBoard}

abbrev pub IsThere : {A : Type 0} → Option A → Type 0
IsThere {A} o = (a : A) × (o ≡ Some a)

-- where stop isn't set, a hart of the board can poll at a time that isn't past, and make its device access with the input that is
-- recorded; and it can lose its reservation
pub record IsAnswering {S V : Type 0} (machine : Recordable S V) (harts : ℕ) (Good : S → Type 0) : Type 0 where
  pub polls : (s : S) (h time : ℕ) → Good s → h < harts → machine.flat.is_stopped s ≡ false → machine.flat.time s ≤ time
      → IsThere (machine.flat.next s (Poll h time))
  pub loses : (s : S) (h : ℕ) → Good s → h < harts → IsThere (machine.flat.next s (Lose h))
  pub touches : (s : S) (h : ℕ) (word : DeviceWord) (store : Option ℕ) (now : ℕ) (answer : Asked) → Good s → h < harts
      → machine.flat.is_stopped s ≡ false → machine.access s h ≡ Some (word, store)
      → IsThere (machine.flat.next s (Touch h (recorded_input word store (machine.flat.time s) now answer)))

-- a move needs two pages at most, whose list a hart that ends its own reservation keeps; a move that accesses no device word is no
-- device access, and such a move can be made
pub record IsPlain {S V : Type 0} (machine : Recordable S V) (harts : ℕ) (Good : S → Type 0) : Type 0 where
  pub short : (s : S) (h : ℕ) → Good s → length (machine.flat.need s h) ≤ 2
  pub keeps : (s t : S) (h : ℕ) → Good s → machine.flat.next s (Lose h) ≡ Some t → machine.flat.need t h ≡ machine.flat.need s h
  pub tells : (s : S) (h : ℕ) → Good s → machine.access s h ≡ None → machine.flat.is_at_device s h ≡ false
  pub runs : (s : S) (h : ℕ) → Good s → h < harts → machine.flat.is_at_device s h ≡ false → IsThere (machine.flat.next s (Run h))

-- a flat state of a board, each of whose harts knows as many harts as the devices
pub record IsFitting (harts pages : ℕ) (s : FlatState) : Type 0 where
  pub board : IsPagedBoard harts pages s
  pub harts_are : (h : ℕ) (x : Hart) → slice_get s.harts h ≡ Some x → x.harts ≡ s.devices.harts
