-- What a flat machine must be like so that the harts of a replay don't disturb each other (docs/replay.md).
use Rattle.std.specs.Prelude.{ℕ, ◌≡◌, ◌≢◌, ◌<◌, ◌≤◌, Bool, true, false, length, Some, None}
use Rattle.rv_words.specs.declared.shared.Input.{Input}
use Rattle.flat_machine.specs.declared.act.Act.{Act}
use Rattle.flat_machine.specs.declared.act.Act.TheVariants.{Run, Touch, Poll, Lose}
use Rattle.replay_model.specs.Flat.{Flat}
use Rattle.order_rules.specs.Holders.{row}
use Rattle.replay_model.specs.State.{Replay, want, IsCrewState}

abbrev pub actor : Act → ℕ
actor (Run h) = h
actor (Touch h input) = h
actor (Poll h time) = h
actor (Lose h) = h

-- the acts on the devices
abbrev pub is_on_devices : Act → Bool
is_on_devices (Touch h input) = true
is_on_devices (Poll h time) = true
is_on_devices act = false

module _ {S V : Type 0} (flat : Flat S V) where
  -- the pages that an act needs are held so: those of a move; a Poll and a Lose need none
  abbrev pub HasPages : Replay S → Act → Type 0
  HasPages s (Run h) = want flat s h ≡ None
  HasPages s (Touch h input) = want flat s h ≡ None
  HasPages s act = Unit {0}

  -- a hart finds its part of the machine as it was: of its next move where it holds the pages that this needs
  pub record IsUndisturbed (s : Replay S) (t : S) (h : ℕ) : Type 0 where
    pub count : flat.count t h ≡ flat.count s.flat h
    pub reserved : flat.reserved_page t h ≡ flat.reserved_page s.flat h
    pub need : want flat s h ≡ None → flat.need t h ≡ flat.need s.flat h
    pub at_device : want flat s h ≡ None → flat.is_at_device t h ≡ flat.is_at_device s.flat h

  -- and finds the devices as they were
  pub record HasDevices (s : Replay S) (t : S) (h : ℕ) : Type 0 where
    pub lines : (time : ℕ) → flat.lines_at t h time ≡ flat.lines_at s.flat h time
    pub stopped : flat.is_stopped t ≡ flat.is_stopped s.flat
    pub suits : want flat s h ≡ None → (input : Input) → flat.suits t h input ≡ flat.suits s.flat h input

  -- two acts can be made one after the other, either first, and come to one state; a story tells the same of their moves
  pub record Meet (s : Replay S) (one two : Act) (a b : S) : Type 0 where
    pub end : S
    pub then_two : flat.next a two ≡ Some end
    pub then_one : flat.next b one ≡ Some end
    pub told_one : want flat s (actor one) ≡ None → flat.told s.flat (actor one) a ≡ flat.told b (actor one) end
    pub told_two : want flat s (actor two) ≡ None → flat.told s.flat (actor two) b ≡ flat.told a (actor two) end

  module _ (Sized : S → Type 0) (harts pages : ℕ) where
    -- the flat state and the table are of the board's size, the holders are CREW, and each live reservation lies in a page that
    -- its hart holds in Write
    pub record IsWellHeld (s : Replay S) : Type 0 where
      pub sized : Sized s.flat
      pub table : length s.holders ≡ pages
      pub rows : (page : ℕ) → page < pages → length (row s.holders page) ≡ harts
      pub crew : IsCrewState flat s

    -- acts on held pages disturb nobody else
    pub record IsLocal : Type 0 where
      pub lasts : (s : Replay S) (act : Act) (t : S) → IsWellHeld s → HasPages s act → flat.next s.flat act ≡ Some t → IsWellHeld (record s { flat = t })
      pub loses : (s t : S) (h : ℕ) → flat.next s (Lose h) ≡ Some t → flat.reserved_page t h ≡ None
      pub undisturbed : (s : Replay S) (act : Act) (t : S) (h : ℕ) → IsWellHeld s → HasPages s act → flat.next s.flat act ≡ Some t → h ≢ actor act
          → IsUndisturbed s t h
      pub devices : (s : Replay S) (act : Act) (t : S) (h : ℕ) → IsWellHeld s → HasPages s act → flat.next s.flat act ≡ Some t → h ≢ actor act
          → is_on_devices act ≡ false → HasDevices s t h
      pub meet : (s : Replay S) (one two : Act) (a b : S) → IsWellHeld s → actor one ≢ actor two → (is_on_devices one ≡ true → is_on_devices two ≡ true → ⊥)
          → HasPages s one → HasPages s two → flat.next s.flat one ≡ Some a → flat.next s.flat two ≡ Some b → Meet s one two a b
      pub nobody : (s : S) (h : ℕ) → Sized s → harts ≤ h → flat.next s (Run h) ≡ None
