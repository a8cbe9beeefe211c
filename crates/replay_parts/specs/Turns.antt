-- A turn of a hart of a replay's board (docs/replay.md): its leg is committed, and the items of its entries at its count are made while it can.
use Rattle.std.specs.Prelude.{ℕ, ◌≡◌, ◌≤◌, zero, suc, List, slice_set, slice_index, Option, Some}
use Rattle.log_entry.specs.declared.log.Entry.{Entry}
use Rattle.log_entry.specs.declared.log.Log.{Log}
use Rattle.log_entry.specs.Parts.{unit_of}
use Rattle.flat_machine.specs.State.{FlatState}
use Rattle.flat_machine.specs.declared.results.Step.{Step}
use Rattle.replay_model.specs.Board.{board}
use Rattle.replay_model.specs.State.{Replay}
use Rattle.replay_model.specs.Items.{Makes, Verdict, HasEnded, Holds, CanGo, HasDiverged, next_item, verdict, step}
use Rattle.run_model.specs.Legs.{Runs}
use Rattle.replay_parts.specs.Boards.{Plain, state_of}
use Rattle.replay_parts.specs.Parts.{until_in}

-- what a hart is told behind its turn
pub data Told : Type 0 where
  Goes : ℕ → Told
  Waits : Told
  Diverges : ℕ → Told
  Ends : Told

-- it is told to move on up to the count of its entry where its next item is a Run that it can make, and else why it can't
abbrev pub told_of : ℕ → Verdict → Told
told_of until HasEnded = Ends
told_of until Holds = Waits
told_of until CanGo = Goes until
told_of until (HasDiverged rule) = Diverges rule

-- the hart's next item is an entry that it can make
abbrev pub MakesNext : Log → Replay FlatState → ℕ → Type 0
MakesNext log s h = (e : Entry) × ((next_item (board (unit_of log)) log s h ≡ Makes e) × (verdict (board (unit_of log)) log s h ≡ CanGo))

-- the board once the hart stands at this state
abbrev pub committed : Plain → ℕ → Replay FlatState → Plain
committed p h s =
    record p { places = slice_set p.places h (slice_index s.cursor.places h); counts = slice_set p.counts h (slice_index s.flat.counts h) }

-- from s the hart makes so many entries, one after the other, and comes to t
abbrev pub MakesEntries : Log → ℕ → ℕ → Replay FlatState → Replay FlatState → Type 0
MakesEntries log h zero s t = s ≡ t
MakesEntries log h (suc n) s t =
    MakesNext log s h
    × ((m : Replay FlatState × Option (List Step)) × ((step (board (unit_of log)) log h s ≡ Some m) × MakesEntries log h n m.0 t))

-- a turn of hart h whose leg has n moves: the leg, then its entries, until its next item is none that it can make
pub record IsTurn (old new : Plain) (h n : ℕ) (told : Told) : Type 0 where
  pub led : Replay FlatState
  pub leg : Runs (board (unit_of old.log)) h n (state_of old) led
  pub within : slice_index led.flat.counts h ≤ until_in old.log (state_of old) h
  pub entries : ℕ
  pub at : Replay FlatState
  pub makes : MakesEntries old.log h entries led at
  pub over : MakesNext old.log at h → ⊥
  pub committed_is : new ≡ committed old h at
  pub told_is : told ≡ told_of (until_in old.log at h) (verdict (board (unit_of old.log)) old.log at h)
