-- What doesn't depend on the room that the waits of a log have in memory.
use Rattle.std.specs.Prelude.{ℕ, ◌≡◌, ◌↔◌, List}
use Rattle.outside.specs.declared.console.Asked.{Asked}
use Rattle.log_entry.specs.declared.log.Entry.{Entry}
use Rattle.log_entry.specs.declared.log.Log.{Log}
use Rattle.log_entry.specs.Parts.{count_of, page_number, ordinal_of, time_of, holds_then}
use Rattle.log_entry.specs.Range.{in_range}
use Rattle.log_entry.specs.Room.{entry_without_room, log_without_room, stream_without_room}
use Rattle.log_entry.specs.Size.{size_of, size_of_log}
use Rattle.log_format.specs.Grammar.{spelling}
use Rattle.elf_image.specs.Image.{Image}
use Rattle.flat_machine.specs.State.{FlatState}
use Rattle.order_rules.specs.Places.{stream}
use Rattle.order_rules.specs.Rules.{held}
use Rattle.order_rules.specs.Cursor.{Cursor, guard_is_met, taken, IsLeastOrder}
use Rattle.order_rules.specs.Orderly.{spots, rules, first_broken, IsOrderly, IsLeastBreak}
use Rattle.replay_model.specs.Board.{board}
use Rattle.replay_model.specs.Flat.{Flat}
use Rattle.replay_model.specs.State.{Replay, start}
use Rattle.replay_model.specs.Items.{Item, verdict_on, made, next_item, verdict, step, Obeys, IsFullOrder}
use Rattle.replay_model.specs.Acts.{acts_of}
use Rattle.replay_model.specs.Outcome.{Outcome, outcome_at, IsOutcome}
use Rattle.replay_model.specs.Journal.{IsWantedGain, Throughout, IsLean}
use Rattle.replay_model.specs.Inputs.{Agree}
use Rattle.replay_law.specs.Laws.{IsReplayable, first_replay}
use Rattle.replay_law.specs.Atomics.{atomics_along}
use Rattle.turn_model.specs.Board.{Supply, Terms}
use Rattle.turn_model.specs.Lists.{RecordingEnd}
use Rattle.turn_model.specs.Laws.{IsRight}
use Rattle.lean_journals.specs.Laws.{IsLeanFrom}
use Rattle.room_laws.specs.Items.{item_without_room}

-- size, count, number, ordinal, time and guard of an entry, and what is held and where the cursor stands behind it, are those of the same
-- entry without room
pub record IsSeenAlike (e : Entry) : Type 0 where
  pub size_is : size_of (entry_without_room e) ≡ size_of e
  pub count_is : count_of (entry_without_room e) ≡ count_of e
  pub number_is : page_number (entry_without_room e) ≡ page_number e
  pub ordinal_is : ordinal_of (entry_without_room e) ≡ ordinal_of e
  pub time_is : time_of (entry_without_room e) ≡ time_of e
  pub hold_is : holds_then (entry_without_room e) ≡ holds_then e
  pub guard_is : (c : Cursor) → guard_is_met c (entry_without_room e) ≡ guard_is_met c e
  pub cursor_is : (c : Cursor) (h : ℕ) → taken c h (entry_without_room e) ≡ taken c h e

abbrev pub EntriesSeeNoRoom : Type 0
EntriesSeeNoRoom = (e : Entry) → IsSeenAlike e

-- a log without room has the same entries but for that, in as many bytes, and is in range where the log is; the first rule that is broken,
-- and the spot, are the same, as are what harts hold and the least order; so it is orderly, or breaks a rule at a spot, where the log does
pub record IsJudgedAlike (log : Log) : Type 0 where
  pub streams_are : (h : ℕ) → stream (log_without_room log) h ≡ stream_without_room (stream log h)
  pub size_is : (unit : ℕ) → size_of_log unit (log_without_room log).streams ≡ size_of_log unit log.streams
  pub range_is : in_range (log_without_room log) ≡ in_range log
  pub spots_are : spots (log_without_room log) ≡ spots log
  pub broken_is : first_broken (log_without_room log) 1 rules ≡ first_broken log 1 rules
  pub holds_are : (page h number : ℕ) → held (log_without_room log) page h number ≡ held log page h number
  pub least : (legs : List (ℕ × ℕ)) (c : Cursor) → IsLeastOrder (log_without_room log) legs c ↔ IsLeastOrder log legs c
  pub orderly : IsOrderly (log_without_room log) ↔ IsOrderly log
  pub breaks : (rule hart entry : ℕ) → IsLeastBreak (log_without_room log) rule hart entry ↔ IsLeastBreak log rule hart entry

-- the order rules don't see the room of waits (docs/order-rules.md)
abbrev pub OrderSeesNoRoom : Type 0
OrderSeesNoRoom = (log : Log) → IsJudgedAlike log

-- a replay under a log without room begins where one under the log does, has the same items but for the room of their waits, and goes the
-- same steps by the same verdicts; so orders, acts, outcomes, lean journals, and what agrees with console and clock are the same
pub record IsReplayedAlike {S V : Type 0} (flat : Flat S V) (log : Log) : Type 0 where
  pub starts : (first : S) → start (log_without_room log) first ≡ start log first
  pub items_are : (s : Replay S) (h : ℕ) → next_item flat (log_without_room log) s h ≡ item_without_room (next_item flat log s h)
  pub judged_is : (s : Replay S) (h : ℕ) (item : Item) → verdict_on flat s h (item_without_room item) ≡ verdict_on flat s h item
  pub made_is : (s : Replay S) (h : ℕ) (item : Item) → made flat s h (item_without_room item) ≡ made flat s h item
  pub verdicts_are : verdict flat (log_without_room log) ≡ verdict flat log
  pub steps_are : step flat (log_without_room log) ≡ step flat log
  pub orders : (s t : Replay S) (order : List ℕ) → Obeys flat (log_without_room log) s order t ↔ Obeys flat log s order t
  pub full : (s t : Replay S) (order : List ℕ) → IsFullOrder flat (log_without_room log) s order t ↔ IsFullOrder flat log s order t
  pub acts_are : acts_of flat (log_without_room log) ≡ acts_of flat log
  pub outcomes_are : outcome_at flat (log_without_room log) ≡ outcome_at flat log
  pub outcomes : (first : S) (outcome : Outcome S) → IsOutcome flat (log_without_room log) first outcome ↔ IsOutcome flat log first outcome
  pub gains : (s : Replay S) (order : List ℕ)
      → Throughout flat (log_without_room log) (IsWantedGain flat) s order ↔ Throughout flat log (IsWantedGain flat) s order
  pub lean : (s : Replay S) (order : List ℕ) → IsLean flat (log_without_room log) s order ↔ IsLean flat log s order
  pub inputs : (end : S) (asked : List Asked) (times took : List ℕ)
      → Agree flat (log_without_room log) end asked times took ↔ Agree flat log end asked times took

-- replays on the board don't see the room of waits, whatever the unit (docs/replay.md)
abbrev pub ReplaysSeeNoRoom : Type 0
ReplaysSeeNoRoom = (unit : ℕ) (log : Log) → IsReplayedAlike (board unit) log

-- nor do the images that a log may be replayed over, and where its replays begin
pub record BeginsAlike (log : Log) (image : Image) : Type 0 where
  pub replayable : IsReplayable (log_without_room log) image ↔ IsReplayable log image
  pub first_is : first_replay (log_without_room log) image ≡ first_replay log image

abbrev pub BeginningsSeeNoRoom : Type 0
BeginningsSeeNoRoom = (log : Log) (image : Image) → BeginsAlike log image

-- nor the atomic moves on a word along an order
abbrev pub AtomicsSeeNoRoom : Type 0
AtomicsSeeNoRoom = (word : ℕ) (log : Log) (s : Replay FlatState) (order : List ℕ)
    → atomics_along word (log_without_room log) s order ≡ atomics_along word log s order

-- a recording of a log without room is right where it is with that log (docs/recorder.md)
abbrev pub RightSeesNoRoom : Type 0
RightSeesNoRoom = (terms : Terms) (supply : Supply) (first : FlatState) (r : RecordingEnd FlatState) (log : Log) → r.log ≡ log_without_room log
    → IsRight terms supply first r → IsRight terms supply first (record r { log = log })

-- and its journal is lean where it is with that log
abbrev pub LeanSeesNoRoom : Type 0
LeanSeesNoRoom = (first : FlatState) (r : RecordingEnd FlatState) (log : Log) → r.log ≡ log_without_room log → IsLeanFrom first r
    → IsLeanFrom first (record r { log = log })

-- a log is spelled by the same bytes without room (docs/log-format.md)
abbrev pub SpellingSeesNoRoom : Type 0
SpellingSeesNoRoom = (log : Log) → spelling (log_without_room log) ≡ spelling log
