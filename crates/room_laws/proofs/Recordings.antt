-- A recording is right with a log of any room, and tells the same atomic moves.
use Rattle.std.proofs.Common.{◌≡◌, ℕ, ◌++◌, ◌≤◌, [], ◌∷◌, length, map, refl, sym, ap, subst, ◌∙◌}
use Rattle.std.specs.Option.{option_map_or}
use Rattle.std.proofs.lemmas.List.{length-map}
use Rattle.log_entry.specs.declared.log.Log.{Log}
use Rattle.log_entry.specs.Parts.{unit_of}
use Rattle.log_entry.specs.Size.{frame_size}
use Rattle.log_entry.specs.Room.{stream_without_room, log_without_room}
use Rattle.log_format.proofs.Spelling.{spelling-room}
use Rattle.flat_machine.specs.State.{FlatState, flat_at_start}
use Rattle.flat_machine.specs.Runs.{run_from}
use Rattle.replay_model.specs.Board.{board}
use Rattle.replay_model.specs.State.{Replay, start}
use Rattle.replay_model.specs.Items.{Item, Ended, Move, Makes, next_item, IsFullOrder}
use Rattle.replay_model.specs.Acts.{acts_of}
use Rattle.replay_model.specs.Journal.{order_of, IsWantedGain, Throughout, IsLean}
use Rattle.replay_law.specs.Laws.{first_flat}
use Rattle.replay_law.specs.Atomics.{item_atomics}
use Rattle.turn_model.specs.Board.{Supply, Terms, log_with}
use Rattle.turn_model.specs.Lists.{RecordingEnd}
use Rattle.turn_model.specs.Laws.{HasTaken, IsRight}
use Rattle.room_laws.specs.Items.{item_without_room}
use Rattle.room_laws.specs.Laws.{IsJudgedAlike, IsReplayedAlike, ReplaysSeeNoRoom, BeginningsSeeNoRoom, AtomicsSeeNoRoom, RightSeesNoRoom, LeanSeesNoRoom}
use Rattle.room_laws.specs.Laws.{SpellingSeesNoRoom}
use Rattle.room_laws.proofs.Judged.{order_sees_no_room}
use Rattle.room_laws.proofs.Replays.{replayed_alike, items_are, steps_are}

pub replays_see_no_room : ReplaysSeeNoRoom
replays_see_no_room unit log = replayed_alike (board unit) log

pub bytes_see_no_room : SpellingSeesNoRoom
bytes_see_no_room = spelling-room

pub beginnings_see_no_room : BeginningsSeeNoRoom
beginnings_see_no_room log image = record {
  replayable = (
    λ is. record { orderly = (order_sees_no_room log).orderly.0 is.orderly; whole = is.whole; pages = is.pages },
    λ is. record { orderly = (order_sees_no_room log).orderly.1 is.orderly; whole = is.whole; pages = is.pages },
  );
  first_is = ap (λ n. start (log_without_room log) (flat_at_start image n)) (length-map log.streams stream_without_room)
      ∙ (replayed_alike (board (unit_of log)) log).starts (first_flat log image);
}

item_atomics_is : (word : ℕ) (f : FlatState) (h : ℕ) (item : Item) → item_atomics word f h (item_without_room item) ≡ item_atomics word f h item
item_atomics_is word f h Ended = refl
item_atomics_is word f h Move = refl
item_atomics_is word f h (Makes e) = refl

pub atomics_see_no_room : AtomicsSeeNoRoom
atomics_see_no_room word log s [] = refl
atomics_see_no_room word log s (h ∷ order) =
    λ i. option_map_or (λ m. of_item i ++ atomics_see_no_room word log m.0 order i) (steps_are (board (unit_of log)) log i h s) []
  where
    of_item : item_atomics word s.flat h (next_item (board (unit_of log)) (log_without_room log) s h)
        ≡ item_atomics word s.flat h (next_item (board (unit_of log)) log s h)
    of_item = ap (item_atomics word s.flat h) (items_are (board (unit_of log)) log s h)
        ∙ item_atomics_is word s.flat h (next_item (board (unit_of log)) log s h)

module _ (terms : Terms) (supply : Supply) (first : FlatState) (r : RecordingEnd FlatState) (log : Log) where
  abbrev bare : RecordingEnd FlatState
  bare = record r { log = log_without_room log }

  abbrev roomy : RecordingEnd FlatState
  roomy = record r { log = log }

  alike : IsReplayedAlike (board (unit_of log)) log
  alike = replayed_alike (board (unit_of log)) log

  judged : IsJudgedAlike log
  judged = order_sees_no_room log

  -- a log with the terms' head
  with_head : log_without_room log ≡ log_with terms (map stream_without_room log.streams) log.cause → log ≡ log_with terms log.streams log.cause
  with_head e = λ i. record {
    pages = (e i).pages;
    limit = (e i).limit;
    image = (e i).image;
    streams = log.streams;
    cause = log.cause;
  }

  taken_is : HasTaken supply bare → HasTaken supply roomy
  taken_is t = record {
    asked = t.asked;
    times = t.times;
    answers_are = t.answers_are;
    times_are = t.times_are;
    takes_are = t.takes_are;
    agree = (alike.inputs r.ended t.asked t.times r.ended.devices.sent).0 t.agree;
  }

  size_of_streams : length (map stream_without_room log.streams) ≡ length log.streams
  size_of_streams = length-map log.streams stream_without_room

  obeyed_is : (end : Replay FlatState)
      → IsFullOrder (board (unit_of log)) (log_without_room log) (start (log_without_room log) first) (order_of r.journal) end
      → IsFullOrder (board (unit_of log)) log (start log first) (order_of r.journal) end
  obeyed_is end full = subst (λ s. IsFullOrder (board (unit_of log)) log s (order_of r.journal) end) (alike.starts first)
      ((alike.full (start (log_without_room log) first) end (order_of r.journal)).0 full)

  gains_are :
      Throughout (board (unit_of log)) (log_without_room log) (IsWantedGain (board (unit_of log))) (start (log_without_room log) first) (order_of r.journal)
      → Throughout (board (unit_of log)) log (IsWantedGain (board (unit_of log))) (start log first) (order_of r.journal)
  gains_are gains = subst (λ s. Throughout (board (unit_of log)) log (IsWantedGain (board (unit_of log))) s (order_of r.journal)) (alike.starts first)
      ((alike.gains (start (log_without_room log) first) (order_of r.journal)).0 gains)

  acts_are : acts_of (board (unit_of log)) (log_without_room log) (start (log_without_room log) first) (order_of r.journal)
      ≡ acts_of (board (unit_of log)) log (start log first) (order_of r.journal)
  acts_are = λ i. alike.acts_are i (alike.starts first i) (order_of r.journal)

  right_is : IsRight terms supply first bare → IsRight terms supply first roomy
  right_is right = record {
    terms_are = with_head right.terms_are;
    harts_are = sym size_of_streams ∙ right.harts_are;
    size = λ fits. subst (λ n. n ≤ terms.log_limit) (judged.size_is (unit_of log))
        (right.size (subst (λ n. frame_size (unit_of log) n ≤ terms.log_limit) (sym size_of_streams) fits));
    orderly = judged.orderly.0 right.orderly;
    end = right.end;
    ended = right.ended;
    obeyed = obeyed_is right.end right.obeyed;
    gains = gains_are right.gains;
    done = sym (λ i. alike.outcomes_are i right.end) ∙ right.done;
    acts = ap (run_from first) (sym acts_are) ∙ right.acts;
    taken = taken_is right.taken;
  }

pub recordings_see_no_room : RightSeesNoRoom
recordings_see_no_room terms supply first r log is right =
    right_is terms supply first r log (subst (λ l. IsRight terms supply first (record r { log = l })) is right)

pub lean_sees_no_room : LeanSeesNoRoom
lean_sees_no_room first r log is lean = subst (λ s. IsLean (board (unit_of log)) log s (order_of r.journal)) (same.starts first)
    ((same.lean (start (log_without_room log) first) (order_of r.journal)).0
    (subst (λ l. IsLean (board (unit_of l)) l (start l first) (order_of r.journal)) is lean))
  where
    same : IsReplayedAlike (board (unit_of log)) log
    same = replayed_alike (board (unit_of log)) log
