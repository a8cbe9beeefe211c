-- What turns ask of a machine.
use Rattle.std.specs.Prelude.{ℕ, ◌≡◌, ◌+◌, ◌<◌, Bool, true, false, List, [], ◌∷◌, length, Option, Some, None}
use Rattle.rv_words.specs.declared.shared.Mode.{Mode}
use Rattle.rv_words.specs.declared.shared.Input.{Input}
use Rattle.rv_words.specs.declared.shared.DeviceWord.{DeviceWord}
use Rattle.flat_machine.specs.declared.act.Act.{Act}
use Rattle.flat_machine.specs.declared.act.Act.TheVariants.{Touch, Poll}
use Rattle.log_entry.specs.Parts.{time_of_input}
use Rattle.device_board.specs.Recording.{bytes_given}
use Rattle.replay_model.specs.Flat.{Flat}
use Rattle.crew_recording.specs.Recording.{IsSteady}
use Rattle.crew_recording.specs.Allowed.{IsTimed}
use Rattle.turn_model.specs.Recordable.{Recordable}

abbrev pub AllBelow : ℕ → List (ℕ × Mode) → Type 0
AllBelow pages [] = Unit {0}
AllBelow pages (n ∷ needed) = (n.0 < pages) × AllBelow pages needed

abbrev pub is_access : Act → Bool
is_access (Touch h input) = true
is_access act = false

-- the time that an act makes
abbrev pub time_in : Act → Option ℕ
time_in (Poll h time) = Some time
time_in (Touch h input) = time_of_input input
time_in act = None

-- counts and time go on, what a move needs are pages that there are, a Touch or a Poll is made only where it may be, a Touch alone
-- sets stop and sends, and no time is made but by an act that has one
pub record IsFaithful {S V : Type 0} (flat : Flat S V) (harts pages : ℕ) (Good : S → Type 0) : Type 0 where
  pub steady : IsSteady flat harts Good
  pub timed : IsTimed flat Good
  pub inside : (s : S) (h : ℕ) → Good s → AllBelow pages (flat.need s h)
  pub touches : (s t : S) (h : ℕ) (input : Input) → flat.next s (Touch h input) ≡ Some t
      → (flat.is_at_device s h ≡ true) × (flat.suits s h input ≡ true) × (flat.is_stopped s ≡ false)
  pub stops : (s t : S) (act : Act) → is_access act ≡ false → flat.next s act ≡ Some t → flat.is_stopped t ≡ flat.is_stopped s
  pub sends : (s t : S) (act : Act) → is_access act ≡ false → flat.next s act ≡ Some t → flat.sent t ≡ flat.sent s
  pub times : (s t : S) (act : Act) → time_in act ≡ None → flat.next s act ≡ Some t → flat.time t ≡ flat.time s
  pub polls : (s t : S) (h time : ℕ) → flat.next s (Poll h time) ≡ Some t → flat.is_stopped s ≡ false

-- a Touch sends as many bytes as its access gives to the console
abbrev pub AccessesSend : {S V : Type 0} → Recordable S V → Type 0
AccessesSend {S} machine = (s t : S) (h : ℕ) (word : DeviceWord) (store : Option ℕ) (input : Input) → machine.access s h ≡ Some (word, store)
    → machine.flat.next s (Touch h input) ≡ Some t
    → length (machine.flat.sent t) ≡ length (machine.flat.sent s) + length (bytes_given word store)
