-- A lean journal: pages change hands only where a hart wants them.
use Rattle.std.specs.Prelude.{ℕ, ◌≡◌, ◌≢◌, ◌<◌, true, List, [], ◌∷◌, flat_map, replicate, IsSomeAnd, Option, Some, None}
use Rattle.rv_words.specs.declared.shared.Mode.{Mode}
use Rattle.rv_words.specs.declared.shared.Mode.TheVariants.{Read, Write}
use Rattle.log_entry.specs.declared.log.Entry.TheVariants.{Gain, Yield}
use Rattle.log_entry.specs.declared.log.Log.{Log}
use Rattle.log_entry.specs.Parts.{conflict}
use Rattle.replay_model.specs.Flat.{Flat}
use Rattle.order_rules.specs.Holders.{held}
use Rattle.replay_model.specs.State.{Replay, want}
use Rattle.replay_model.specs.Items.{Item, Makes, next_item, step}

-- the rows of a journal, a hart and a number of items each, as an order of harts
abbrev pub order_of : List (ℕ × ℕ) → List ℕ
order_of journal = flat_map (λ row. replicate row.1 row.0) journal

-- what is left to a hart whose page another wants in this mode
abbrev pub left_for : Mode → Option Mode
left_for Read = Some Read
left_for Write = None

-- a Gain is the want of its hart
abbrev pub IsWantedGain : {S V : Type 0} → Flat S V → Replay S → ℕ → Item → Type 0
IsWantedGain flat s h (Makes (Gain count page seq mode waits)) = want flat s h ≡ Some (page, mode)
IsWantedGain flat s h _ = Unit {0}

module _ {S V : Type 0} (flat : Flat S V) (log : Log) where
  -- another hart below the limit wants the page in a mode that conflicts with what h holds, and this is left for that mode
  pub record IsWanted (s : Replay S) (h page : ℕ) (left : Option Mode) : Type 0 where
    pub hart : ℕ
    pub mode : Mode
    pub other : hart ≢ h
    pub goes_on : flat.count s.flat hart < log.limit
    pub wants : want flat s hart ≡ Some (page, mode)
    pub conflicts : conflict (held s.holders page h) (Some mode) ≡ true
    pub leaves : left ≡ left_for mode

  abbrev pub IsLeanItem : Replay S → ℕ → Item → Type 0
  IsLeanItem s h (Makes (Gain count page seq mode waits)) = want flat s h ≡ Some (page, mode)
  IsLeanItem s h (Makes (Yield count page seq left)) = IsWanted s h page left
  IsLeanItem s h _ = Unit {0}

  -- each hart in turn can go, and of its item this holds at the state before it
  abbrev pub Throughout : (Replay S → ℕ → Item → Type 0) → Replay S → List ℕ → Type 0
  Throughout P s [] = Unit {0}
  Throughout P s (h ∷ order) = P s h (next_item flat log s h) × IsSomeAnd (step flat log h s) (λ m. Throughout P m.0 order)

  abbrev pub IsLean : Replay S → List ℕ → Type 0
  IsLean s order = Throughout IsLeanItem s order
