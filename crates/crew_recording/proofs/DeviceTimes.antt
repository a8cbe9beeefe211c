-- What a device access leaves of mtime.
use Rattle.std.proofs.Common.{◌≡◌, ℕ, ◌≤◌, Option, Some, None, sym, ap, ◌∙◌, inl, inr, refl, arith, if◌then◌else◌}
use Rattle.std.proofs.lemmas.Option.{none-some, same_Some}
use Rattle.std.proofs.lemmas.Bool.Decides.{leb_tells}
use Rattle.shared_types.proofs.Lists.{bound_to}
use Rattle.rv_words.specs.declared.shared.Access.{Access}
use Rattle.rv_words.specs.declared.shared.Input.{Input}
use Rattle.rv_words.specs.declared.shared.Input.TheVariants.{Nothing, Empty, Byte, Time}
use Rattle.rv_words.specs.declared.shared.DeviceWord.{DeviceWord}
use Rattle.rv_words.specs.declared.shared.DeviceWord.TheVariants.{Msip, CompareLow, CompareHigh, TimeLow, TimeHigh, Rx, Tx, Stop}
use Rattle.rv_words.specs.Addresses.{device_word}
use Rattle.device_board.specs.State.{Devices, with_time}
use Rattle.device_board.specs.Accesses.{touched, word_touched, loaded, timed}
use Rattle.replay_model.proofs.Times.{store_on}

-- mtime after an access: not lower, and a Time input's own time
pub record GoesOn (d e : Devices) (input : Input) : Type 0 where
  pub later : d.mtime ≤ e.mtime
  pub time : (t : ℕ) → input ≡ Time t → (d.mtime ≤ t) × (e.mtime ≡ t)

abbrev time_in : Input → Option ℕ
time_in (Time t) = Some t
time_in _ = None

stays : (d e : Devices) (input : Input) → e.mtime ≡ d.mtime → time_in input ≡ None → GoesOn d e input
stays d e input same none = record { later = omega (arith, same); time = λ t is. absurd (none-some t (sym none ∙ ap time_in is)) }

timed_on : (d e : Devices) (t half w : ℕ) → timed d t half ≡ Some (e, w) → GoesOn d e (Time t)
timed_on d e t half w is = elim (leb_tells d.mtime t) [
  | inl (b, l) ↦
      let p : ◌≡◌ {A = Devices × ℕ} (with_time t d, half) (e, w) =
      same_Some _ _ (sym (ap (λ x. if x then Some (with_time t d, half) else None) b) ∙ is) in
      let m : t ≡ e.mtime = ap (λ (z : Devices × ℕ). z.0.mtime) p in
      record { later = omega (arith, l, m); time = λ u same. let v = same_Some _ _ (ap time_in same) in (omega (arith, l, v), omega (arith, m, v)) }
  | inr (b, l) ↦ absurd (none-some _ (sym (ap (λ x. if x then Some (with_time t d, half) else None) b) ∙ is))
]

kept : (d e : Devices) (v w : ℕ) (input : Input) → time_in input ≡ None → ◌≡◌ {A = Option (Devices × ℕ)} (Some (d, v)) (Some (e, w)) → GoesOn d e input
kept d e v w input none is = stays d e input (sym (ap (λ (z : Devices × ℕ). z.0.mtime) (same_Some {A = Devices × ℕ} _ _ is))) none

load_on : (d e : Devices) (word : DeviceWord) (input : Input) (w : ℕ) → loaded d word input ≡ Some (e, w) → GoesOn d e input
load_on d e (Msip h) Nothing w is = kept d e _ w Nothing refl is
load_on d e (Msip h) Empty w is = absurd (none-some _ is)
load_on d e (Msip h) (Byte b) w is = absurd (none-some _ is)
load_on d e (Msip h) (Time t) w is = absurd (none-some _ is)
load_on d e (CompareLow h) Nothing w is = kept d e _ w Nothing refl is
load_on d e (CompareLow h) Empty w is = absurd (none-some _ is)
load_on d e (CompareLow h) (Byte b) w is = absurd (none-some _ is)
load_on d e (CompareLow h) (Time t) w is = absurd (none-some _ is)
load_on d e (CompareHigh h) Nothing w is = kept d e _ w Nothing refl is
load_on d e (CompareHigh h) Empty w is = absurd (none-some _ is)
load_on d e (CompareHigh h) (Byte b) w is = absurd (none-some _ is)
load_on d e (CompareHigh h) (Time t) w is = absurd (none-some _ is)
load_on d e TimeLow Nothing w is = absurd (none-some _ is)
load_on d e TimeLow Empty w is = absurd (none-some _ is)
load_on d e TimeLow (Byte b) w is = absurd (none-some _ is)
load_on d e TimeLow (Time t) w is = timed_on d e t _ w is
load_on d e TimeHigh Nothing w is = absurd (none-some _ is)
load_on d e TimeHigh Empty w is = absurd (none-some _ is)
load_on d e TimeHigh (Byte b) w is = absurd (none-some _ is)
load_on d e TimeHigh (Time t) w is = timed_on d e t _ w is
load_on d e Rx Nothing w is = absurd (none-some _ is)
load_on d e Rx Empty w is = kept d e _ w Empty refl is
load_on d e Rx (Byte b) w is = kept d e _ w (Byte b) refl is
load_on d e Rx (Time t) w is = absurd (none-some _ is)
load_on d e Tx Nothing w is = kept d e _ w Nothing refl is
load_on d e Tx Empty w is = absurd (none-some _ is)
load_on d e Tx (Byte b) w is = absurd (none-some _ is)
load_on d e Tx (Time t) w is = absurd (none-some _ is)
load_on d e Stop Nothing w is = kept d e _ w Nothing refl is
load_on d e Stop Empty w is = absurd (none-some _ is)
load_on d e Stop (Byte b) w is = absurd (none-some _ is)
load_on d e Stop (Time t) w is = absurd (none-some _ is)

word_on : (d e : Devices) (word : DeviceWord) (store : Option ℕ) (input : Input) (w : ℕ) → word_touched d word store input ≡ Some (e, w) → GoesOn d e input
word_on d e word None input w is = load_on d e word input w is
word_on d e word (Some v) Nothing w is = stays d e Nothing
    (sym (ap (λ (z : Devices × ℕ). z.0.mtime) (same_Some {A = Devices × ℕ} _ _ is)) ∙ store_on d word v) refl
word_on d e word (Some v) Empty w is = absurd (none-some _ is)
word_on d e word (Some v) (Byte b) w is = absurd (none-some _ is)
word_on d e word (Some v) (Time t) w is = absurd (none-some _ is)

pub touch_on : (d : Devices) (access : Access) (input : Input) (x : Devices × ℕ) → touched d access input ≡ Some x → GoesOn d x.0 input
touch_on d access input x is = let t = bound_to (λ word. word_touched d word access.store input) (device_word d.harts access.at) x is in
    word_on d x.0 t.0 access.store input x.1 t.2
