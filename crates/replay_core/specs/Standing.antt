-- The replay state that a replay's board stands for.
use Rattle.std.specs.Prelude.{ℕ, ◌≡◌, ◌≢◌, ◌+◌, ◌-◌, ◌*◌, ◌<◌, ◌≤◌, Bool, true, false, IsTrue, map, List, [], length, slice_get, slice_index, Option, Some}
use Rattle.std.specs.Prelude.{None}
use Rattle.log_entry.specs.declared.log.Entry.{Entry}
use Rattle.log_entry.specs.declared.log.Log.{Log}
use Rattle.log_entry.specs.Parts.{ordinal_of, unit_of}
use Rattle.log_entry.specs.Range.{in_range}
use Rattle.elf_image.specs.Image.{Image}
use Rattle.order_rules.specs.Places.{entry_at}
use Rattle.order_rules.specs.Cursor.{first_left, guard_is_met, taken}
use Rattle.flat_machine.specs.State.{FlatState}
use Rattle.flat_machine.specs.Runs.{final_of}
use Rattle.flat_machine.specs.declared.results.Final.{Final}
use Rattle.replay_model.specs.Outcome.{diverged, cause_agrees, rule_of}
use Rattle.orders_law.specs.Orders.{Leads, total}
use Rattle.replay_model.specs.Board.{board}
use Rattle.replay_model.specs.State.{Replay}
use Rattle.flat_machine.specs.declared.results.Step.{Step}
use Rattle.replay_model.specs.Items.{Item, CanGo, Obeys, item_at, verdict, step, story}
use Rattle.run_model.specs.Run.{Run}
use Rattle.run_model.specs.Agreement.{Agrees}
use Rattle.board_backing.specs.Backing.{Backs}
use Rattle.replay_law.specs.Laws.{IsReplayable, first_replay}
use Rattle.replay_core.specs.declared.position.Position.{Position}
use Rattle.replay_core.specs.declared.replaying.Replaying.{Replaying}
use Rattle.replay_core.specs.declared.went.Went.{Went}
use Rattle.replay_core.specs.declared.outcome.Outcome.{Outcome}
use Rattle.replay_core.specs.declared.outcome.Outcome.TheVariants as told
use Rattle.board_backing.specs.Ends.{HasPlaces}
use Rattle.replay_core.specs.Ends.{IsFirstOf, IsOutcomeOf}
use Rattle.replay_core.specs.Items.{IsStuck, answer_of, after}

-- the ordinals of a stream are below a number
abbrev pub StreamBelow : List Entry → ℕ → Type 0
StreamBelow s n = (i k : ℕ) (e : Entry) → slice_get s i ≡ Some e → ordinal_of e ≡ Some k → k < n

-- the ordinals of a log are
abbrev pub OrdinalsBelow : Log → ℕ → Type 0
OrdinalsBelow log n = (h i k : ℕ) (e : Entry) → entry_at log h i ≡ Some e → ordinal_of e ≡ Some k → k < n

-- the devices are of the log's harts, and they have room for each byte that an entry left can send: an ordinal was taken for each byte
pub record IsRoomy (b : Position) : Type 0 where
  pub harts : b.backing.devices.devices.harts ≡ length b.log.streams
  pub sent : length b.backing.devices.devices.sent ≤ b.cursor.ordinal
  pub room : OrdinalsBelow b.log (length b.backing.devices.devices.sent + b.backing.devices.spare)

-- an order that obeys the log leads from the image's start to the state; the cursor is the board's, and its pages and devices back the state
pub record Stands (image : Image) (b : Position) (s : Replay FlatState) : Type 0 where
  pub replayable : IsReplayable b.log image
  pub range : IsTrue (in_range b.log)
  pub order : List ℕ
  pub obeys : Obeys (board (unit_of b.log)) b.log (first_replay b.log image) order s
  pub cursor : b.cursor ≡ s.cursor
  pub backs : Backs b.backing s
  pub roomy : IsRoomy b

-- some state that the board stands for agrees with the run of a hart
abbrev pub IsTied : Position → Run → ℕ → Type 0
IsTied b run h = (image : Image) × ((s : Replay FlatState) × Stands image b s × Agrees run h s)

-- the item of a hart whose run is this
abbrev pub item_of : Position → Run → ℕ → Item
item_of b run h = item_at run.count (first_left b.log b.cursor h)

-- the hart had one item: the answer is the item's verdict, and board and run are at the state after it
pub record Goes (image : Image) (new : Position) (run : Run) (log : Log) (h : ℕ) (s : Replay FlatState) (answer : Went) : Type 0 where
  pub answer_is : answer ≡ answer_of log s h
  pub stands : Stands image new (after log h s)
  pub agrees : Agrees run h (after log h s)

-- the same of each state that the board stands for and the run agrees with, whatever the image
abbrev pub MakesItem : Position → Position → Run → Run → ℕ → Went → Type 0
MakesItem old new before after h answer =
    (image : Image) (s : Replay FlatState) → Stands image old s → Agrees before h s → Goes image new after old.log h s answer

-- moves of the hart up to this count lead on from the state: the board stands there too, the hart's run agrees and has counted, and each other
-- is as it was
pub record RunsOn (image : Image) (b : Position) (before after : Run) (h most : ℕ) (s : Replay FlatState) : Type 0 where
  pub at : Replay FlatState
  pub made : List (ℕ × Option (List Step))
  pub leads : Leads (step (board (unit_of b.log)) b.log) s made at
  pub alone : (g : ℕ) → g ≢ h → story (board (unit_of b.log)) b.log g made ≡ []
  pub stands : Stands image b at
  pub agrees : Agrees after h at
  pub others : (g : ℕ) (q : Run) → g ≢ h → Agrees q g s → Agrees q g at
  pub counts : (g : ℕ) → g ≢ h → slice_index at.flat.counts g ≡ slice_index s.flat.counts g
  pub more : before.count < after.count
  pub within : after.count ≤ most

-- so they do from each state that the board stands for and the run agrees with
abbrev pub MakesMoves : Position → Run → Run → ℕ → ℕ → Type 0
MakesMoves b before after h most =
    (image : Image) (s : Replay FlatState) → Stands image b s → Agrees before h s → RunsOn image b before after h most s

-- there nothing is changed
abbrev pub StaysWhere : Type 0 → Position → Position → Run → Run → Type 0
StaysWhere where_so old new before after = where_so → (new ≡ old) × (after ≡ before)

-- the hart's first entry left is taken, where its guard is met
abbrev pub Passes : Position → Position → ℕ → Type 0
Passes old new h = (e : Entry) → first_left old.log old.cursor h ≡ Some e → guard_is_met old.cursor e ≡ true → new.cursor ≡ taken old.cursor h e

-- a board at the start of the replay of an image
abbrev pub BeginsBoard : Log → Image → Position → Type 0
BeginsBoard log image b = (b.log ≡ log) × Stands image b (first_replay log image)

-- the stage is at this state of the replay of an image: its board stands for it, and each hart's run agrees with it
pub record IsAt (image : Image) (stage : Replaying) (s : Replay FlatState) : Type 0 where
  pub stands : Stands image stage.board s
  pub runs : length stage.runs.items ≡ length stage.board.log.streams
  pub agree : (h : ℕ) (r : Run) → slice_get stage.runs.items h ≡ Some r → Agrees r h s
  pub ends : HasPlaces stage.ends (length stage.board.log.streams) (length s.flat.memory)

-- at each such state the answer is what comes of the hart's item there
abbrev pub AnswersAt : Replaying → ℕ → Went → Type 0
AnswersAt old h answer = (image : Image) (s : Replay FlatState) → IsAt image old s → answer ≡ answer_of old.board.log s h

-- and leads to the state after it
abbrev pub LeadsOn : Replaying → Replaying → ℕ → Type 0
LeadsOn old new h = (image : Image) (s : Replay FlatState) → IsAt image old s → IsAt image new (after old.board.log h s)

-- the stages are one, but for the room of the list of runs
abbrev pub IsSame : Replaying → Replaying → Type 0
IsSame old new = (new.board ≡ old.board) × ((new.runs.items ≡ old.runs.items) × (new.ends ≡ old.ends))

abbrev pub IsSomewhere : Replaying → Type 0
IsSomewhere stage = (image : Image) × ((s : Replay FlatState) × IsAt image stage s)

-- a stage at the start of the replay of an image
abbrev pub Begins : Log → Image → Replaying → Type 0
Begins log image stage = (stage.board.log ≡ log) × IsAt image stage (first_replay log image)

-- some items of its harts lead from each of its states to one of the other
abbrev pub GoesOn : Replaying → Replaying → Type 0
GoesOn old new = (image : Image) (s : Replay FlatState) → IsAt image old s → (t : Replay FlatState) × IsAt image new t

-- how many entries and moves may be left: what a replay's loops end by
abbrev pub left : Replaying → ℕ
left stage =
    total (map length stage.board.log.streams) + length stage.board.log.streams * stage.board.log.limit
    - (total stage.board.cursor.places + total (map (λ (r : Run). r.count) stage.runs.items))

-- where the hart went, less is left; and else nothing is changed
abbrev pub HasGone : Bool → Replaying → Replaying → Type 0
HasGone true old new = left new < left old
HasGone false old new = IsSame old new

-- at each of its states no hart can go
abbrev pub CanGoNowhere : Replaying → Type 0
CanGoNowhere stage = (image : Image) (s : Replay FlatState) → IsAt image stage s → IsStuck stage.board.log s

-- at each of its states this hart can't go
abbrev pub HasNoItem : Replaying → ℕ → Type 0
HasNoItem stage h = (image : Image) (s : Replay FlatState) → IsAt image stage s → verdict (board (unit_of stage.board.log)) stage.board.log s h ≢ CanGo

-- what the replay of each image comes to whose replay leads here
abbrev pub ComesTo : Replaying → Outcome → Type 0
ComesTo stage answer = (image : Image) (s : Replay FlatState) → IsAt image stage s → IsOutcomeOf stage.board.log image answer

-- at each of its states this hart has not diverged
abbrev pub IsUndiverged : Replaying → ℕ → Type 0
IsUndiverged stage h = (image : Image) (s : Replay FlatState) → IsAt image stage s
    → rule_of (verdict (board (unit_of stage.board.log)) stage.board.log s h) ≡ None

-- the least hart that has diverged at each of its states, with its rule
abbrev pub FindsDiverged : Replaying → Option (ℕ × ℕ) → Type 0
FindsDiverged stage found =
    (image : Image) (s : Replay FlatState) → IsAt image stage s → IsFirstOf found (diverged (board (unit_of stage.board.log)) stage.board.log s)

-- whether the log's cause agrees with each of its states
abbrev pub AgreesOnCause : Replaying → Bool → Type 0
AgreesOnCause stage agrees =
    (image : Image) (s : Replay FlatState) → IsAt image stage s → agrees ≡ cause_agrees (board (unit_of stage.board.log)) stage.board.log s.flat

-- the end of each of its states
abbrev pub EndsAt : Replaying → Final → Type 0
EndsAt stage end = (image : Image) (s : Replay FlatState) → IsAt image stage s → end ≡ final_of s.flat stage.board.log.cause

-- this hart diverged with this rule, as it is told at each of its states
abbrev pub TellsDiverged : Replaying → ℕ → ℕ → Outcome → Type 0
TellsDiverged stage hart why answer = (image : Image) (s : Replay FlatState) → IsAt image stage s
    → answer ≡ told.Diverged hart ((board (unit_of stage.board.log)).count s.flat hart) why (final_of s.flat stage.board.log.cause)
