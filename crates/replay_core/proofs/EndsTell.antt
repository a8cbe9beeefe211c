-- The end of a stage's replay.
use Rattle.std.proofs.Common.{◌≡◌, ◌≢◌, inl, inr, ℕ, length, None, refl, ap}
use Rattle.std.proofs.lemmas.Bool.{cases_lt}
use Rattle.log_entry.specs.Parts.{unit_of}
use Rattle.log_entry.specs.declared.log.Log.{Log}
use Rattle.flat_machine.specs.State.{FlatState}
use Rattle.replay_model.specs.Board.{board}
use Rattle.replay_model.specs.State.{Replay}
use Rattle.replay_model.specs.Items.{Verdict, HasEnded, Holds, CanGo, HasDiverged, IsFullOrder, goes, next_item, verdict, step}
use Rattle.replay_law.proofs.Orders.{least_ends_there, no_more, orders_tell_outcome}
use Rattle.elf_image.specs.Image.{Image}
use Rattle.replay_law.specs.Laws.{first_replay}
use Rattle.replay_core.specs.declared.replaying.Replaying.{Replaying}
use Rattle.replay_core.specs.Items.{IsStuck}
use Rattle.replay_core.specs.Standing.{IsAt}
use Rattle.replay_core.specs.Laws.{EndsAreLeast, EndsTellOutcome}
use Rattle.replay_core.proofs.StateAfterItem.{reached}

stuck : (log : Log) (s : Replay FlatState) (h : ℕ) (v : Verdict) → verdict (board (unit_of log)) log s h ≡ v → v ≢ CanGo
    → step (board (unit_of log)) log h s ≡ None
stuck log s h HasEnded e n = ap (goes (board (unit_of log)) s h (next_item (board (unit_of log)) log s h)) e
stuck log s h Holds e n = ap (goes (board (unit_of log)) s h (next_item (board (unit_of log)) log s h)) e
stuck log s h (HasDiverged rule) e n = ap (goes (board (unit_of log)) s h (next_item (board (unit_of log)) log s h)) e
stuck log s h CanGo e n = absurd (n refl)

-- the order that led to a stage's state, where no hart can go, is a full one
pub full_there : (image : Image) (stage : Replaying) (s : Replay FlatState) → (at : IsAt image stage s) → IsStuck stage.board.log s
    → IsFullOrder (board (unit_of stage.board.log)) stage.board.log (first_replay stage.board.log image) at.stands.order s
full_there image stage s at none =
    let st = at.stands in (
      st.obeys.0,
      st.obeys.1,
      record {
        leads = st.obeys.2;
        over = λ h. elim (cases_lt h (length stage.board.log.streams)) [
          | inl l ↦ stuck stage.board.log s h (verdict (board (unit_of stage.board.log)) stage.board.log s h) refl (none h l)
          | inr m ↦ no_more stage.board.log image st.replayable h s (reached image stage.board s st).going.good m
        ];
      },
    )

pub ends_least : EndsAreLeast
ends_least image stage s at none =
    least_ends_there stage.board.log image at.stands.order s at.stands.replayable (full_there image stage s at none)

pub ends_tell : EndsTellOutcome
ends_tell image stage s outcome at none is =
    orders_tell_outcome stage.board.log image at.stands.order s outcome at.stands.replayable (full_there image stage s at none) is
