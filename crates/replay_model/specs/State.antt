-- The states of a replay.
use Rattle.std.specs.Prelude.{ℕ, ◌≡◌, find, length, nat_lt, Option, Some}
use Rattle.rv_words.specs.declared.shared.Mode.{Mode}
use Rattle.rv_words.specs.declared.shared.Mode.TheVariants.{Write}
use Rattle.log_entry.specs.declared.log.Log.{Log}
use Rattle.log_entry.specs.Parts.{strength, units_of}
use Rattle.order_rules.specs.Cursor as cursor
use Rattle.order_rules.specs.Cursor.{Cursor}
use Rattle.replay_model.specs.Flat.{Flat}
use Rattle.order_rules.specs.Holders.{Holders, nobody, held, IsCrew}

pub record Replay (S : Type 0) : Type 0 where
  pub flat : S
  pub cursor : Cursor
  pub holders : Holders

-- first places, nobody holds anything
abbrev pub start : {S : Type 0} → Log → S → Replay S
start log flat = record { flat = flat; cursor = cursor.start log; holders = nobody (units_of log) (length log.streams) }

module _ {S V : Type 0} (flat : Flat S V) where
  -- the first page and mode of its next move that a hart doesn't hold so
  abbrev pub want : Replay S → ℕ → Option (ℕ × Mode)
  want s h = find (λ n. nat_lt (strength (held s.holders n.0 h)) (strength (Some n.1))) (flat.need s.flat h)

  -- the holders are CREW, and a live reservation lies in a page that its hart holds in Write
  pub record IsCrewState (s : Replay S) : Type 0 where
    pub holders : IsCrew s.holders
    pub reservations : (h page : ℕ) → flat.reserved_page s.flat h ≡ Some page → held s.holders page h ≡ Some Write
