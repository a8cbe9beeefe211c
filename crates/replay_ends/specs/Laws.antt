-- Where a replay can come to its end.
use Rattle.std.specs.Prelude.{ℕ, ◌≡◌, ◌<◌, ◌⊎◌, List, length}
use Rattle.log_entry.specs.declared.log.Log.{Log}
use Rattle.log_entry.specs.Parts.{unit_of}
use Rattle.elf_image.specs.Image.{Image}
use Rattle.flat_machine.specs.State.{FlatState}
use Rattle.order_rules.specs.Orderly.{IsOrderly}
use Rattle.replay_model.specs.Board.{board}
use Rattle.replay_model.specs.State.{Replay, start}
use Rattle.replay_model.specs.Items.{HasEnded, Holds, verdict, Obeys}
use Rattle.replay_model.specs.Outcome.{Outcome, IsOutcome}
use Rattle.replay_law.specs.Laws.{IsReplayable, first_flat}

-- where an order that obeys an orderly log has led, and each hart has ended or holds, all have ended
abbrev pub NobodyHoldsAlone : Type 0
NobodyHoldsAlone = (log : Log) (first : FlatState) (order : List ℕ) (t : Replay FlatState) → IsOrderly log
    → Obeys (board (unit_of log)) log (start log first) order t
    → ((h : ℕ) → h < length log.streams → (verdict (board (unit_of log)) log t h ≡ HasEnded) ⊎ (verdict (board (unit_of log)) log t h ≡ Holds))
    → (h : ℕ) → h < length log.streams → verdict (board (unit_of log)) log t h ≡ HasEnded

-- a replay of an orderly log has an outcome
abbrev pub OutcomeIsThere : Type 0
OutcomeIsThere = (log : Log) (image : Image) → IsReplayable log image
    → (outcome : Outcome FlatState) × IsOutcome (board (unit_of log)) log (first_flat log image) outcome

-- and no other
abbrev pub OutcomeIsOne : Type 0
OutcomeIsOne = (log : Log) (first : FlatState) (outcome other : Outcome FlatState) → IsOutcome (board (unit_of log)) log first outcome
    → IsOutcome (board (unit_of log)) log first other → outcome ≡ other
