-- Every recording of an image, by a list or in rounds, is right.
use Rattle.std.proofs.Common.{◌≡◌, ℕ, ◌≤◌, true, List, length, Some, refl, sym, ◌∙◌, subst, inr}
use Rattle.log_entry.specs.Size.{frame_size}
use Rattle.flat_machine.specs.declared.results.Step.{Step}
use Rattle.elf_image.specs.Image.{Image}
use Rattle.flat_machine.specs.State.{FlatState, flat_at_start}
use Rattle.replay_model.specs.Board.{board}
use Rattle.replay_model.specs.Journal.{order_of}
use Rattle.replay_model.proofs.ActsOfOrders.{orders_drive}
use Rattle.crew_recording.proofs.Steady.{no_place}
use Rattle.replay_model.specs.State.{start}
use Rattle.replay_model.specs.Outcome.{cause_agrees}
use Rattle.turn_model.specs.Board.{Board, Supply, Terms, unit_in, board_at_start, log_of}
use Rattle.turn_model.specs.Lists.{RecordingEnd, comes_to, recorded_by_list}
use Rattle.turn_model.specs.Rounds.{IsRecordedInRounds}
use Rattle.turn_model.specs.Recordable.{Recordable}
use Rattle.turn_model.specs.Faithful.{IsFaithful}
use Rattle.turn_model.specs.Laws.{IsPagedBoard, IsRight, OfHarts, RecordingsAreRight, RoundsAreRight, machine_in}
use Rattle.turn_model.proofs.Boards.{IsReached, reached_sound, log_size_is, reached_orderly, reached_full, reached_gains, reached_done, reached_agrees}
use Rattle.turn_model.proofs.ListsOfTurns.{recorded}
use Rattle.turn_model.proofs.Rounds.{recorded_in_rounds}
use Rattle.turn_model.proofs.BoardFacts.{board_faithful, board_sends, start_with}

module _ (terms : Terms) (image : Image) (harts : ℕ) (supply : Supply) (pages : terms.pages ≡ image.pages) where
  abbrev pub machine : Recordable FlatState (List Step)
  machine = machine_in terms

  abbrev pub Good : FlatState → Type 0
  Good = IsPagedBoard harts terms.pages

  pub faithful : IsFaithful (board (unit_in terms)) harts terms.pages Good
  faithful = board_faithful (unit_in terms) harts terms.pages terms.pages (inr (inr refl)) refl

  abbrev pub first : FlatState
  first = flat_at_start image harts

  pub starts : Good first
  starts = start_with terms image harts pages

  abbrev pub ReachedB : Board FlatState → Type 0
  ReachedB d = IsReached machine terms harts Good faithful first supply starts (no_place harts) d

  -- what is right of a recording
  all_right : (d : Board FlatState) → ReachedB d → cause_agrees (board (unit_in terms)) (log_of machine terms d) d.at.flat ≡ true
      → IsRight terms supply first (comes_to machine terms d)
  all_right d reached agrees =
      let log = log_of machine terms d in
      let sound = reached_sound machine terms harts Good faithful first supply starts (no_place harts) d reached in
      let streams : length log.streams ≡ harts = log_size_is machine terms harts Good faithful d ∙ sound.ordered.tidy.streams in
      let full = reached_full machine terms harts Good faithful first supply starts (no_place harts) d reached in
      record {
        terms_are = refl;
        harts_are = streams ∙ sym starts.harts_size;
        size = λ frame. reached.within (subst (λ n. frame_size (unit_in terms) n ≤ terms.log_limit) streams frame);
        orderly = reached_orderly machine terms harts Good faithful first supply starts (no_place harts) d reached;
        end = d.at;
        ended = refl;
        obeyed = full;
        done = reached_done machine terms harts Good faithful first supply starts (no_place harts) d reached agrees;
        gains = reached_gains machine terms harts Good faithful first supply starts (no_place harts) d reached;
        taken = record {
          asked = reached.answered.asked;
          times = reached.answered.times;
          answers_are = reached.answered.answers_are;
          times_are = reached.answered.times_are;
          takes_are = reached.answered.takes_are;
          agree = reached_agrees machine terms harts Good faithful first supply starts (no_place harts) d reached;
        };
        acts = orders_drive (unit_in terms) log (start log first) d.at (order_of d.journal) (full.0, full.1, full.2.leads);
      }

  -- a board that turns reached, at whose end the cause agrees, comes to a recording
  abbrev pub ComesTo : RecordingEnd FlatState → Type 0
  ComesTo r = (d : Board FlatState) × ReachedB d × (cause_agrees (board (unit_in terms)) (log_of machine terms d) d.at.flat ≡ true)
      × (comes_to machine terms d ≡ r)

  pub list_comes : (list : List (ℕ × ℕ)) (r : RecordingEnd FlatState) → OfHarts harts list
      → recorded_by_list machine terms list (board_at_start terms harts first supply) ≡ Some r → ComesTo r
  list_comes list r of is = recorded machine terms harts Good faithful first supply starts (no_place harts) (board_sends (unit_in terms))
      (refl, refl, refl) list r of is

  pub rounds_come : (r : RecordingEnd FlatState) → IsRecordedInRounds machine terms (board_at_start terms harts first supply) r → ComesTo r
  rounds_come r is = recorded_in_rounds machine terms harts Good faithful first supply starts (no_place harts) (board_sends (unit_in terms))
      (refl, refl, refl) r is

  right_where_reached : (r : RecordingEnd FlatState) → ComesTo r → IsRight terms supply first r
  right_where_reached r reached = subst (IsRight terms supply first) reached.3 (all_right reached.0 reached.1 reached.2)

pub recordings_are_right : RecordingsAreRight
recordings_are_right terms image harts supply list r pages of is =
    right_where_reached terms image harts supply pages r (list_comes terms image harts supply pages list r of is)

pub rounds_are_right : RoundsAreRight
rounds_are_right terms image harts supply r pages is = right_where_reached terms image harts supply pages r (rounds_come terms image harts supply pages r is)
