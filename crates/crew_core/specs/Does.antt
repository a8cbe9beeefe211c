-- What a step of a turn does.
use Rattle.rv_words.specs.declared.shared.DeviceWord.{DeviceWord}
use Rattle.rv_words.specs.declared.shared.DeviceWord.TheVariants.{TimeLow, TimeHigh}
use Rattle.std.specs.Prelude.{ℕ, ◌≡◌, Bool, slice_get, unwrap_or, List, [], ◌∷◌, ◌++◌, None, ◌+◌, ◌-◌, ◌%◌, ◌==◌, ◌&&◌, ◌||◌, max, nat_lt, Option}
use Rattle.std.specs.Prelude.{Some, IsTrue, if◌then◌else◌}
use Rattle.crew_core.specs.Seats.{seat_of}
use Rattle.rv_words.specs.Modes.{conflicts}
use Rattle.rv_words.specs.declared.shared.Mode.{Mode}
use Rattle.log_entry.specs.Parts.{is_some_and}
use Rattle.rv_words.specs.declared.shared.Cause.TheVariants.{Fault}
use Rattle.outside.specs.Seen.{SeenConsole, SeenClock}
use Rattle.outside.specs.declared.console.Asked.{Asked}
use Rattle.device_board.specs.Recording.{recorded_input, answers_taken}
use Rattle.log_entry.specs.declared.log.Entry.{Entry}
use Rattle.flat_machine.specs.State.{FlatState}
use Rattle.crew_parts.specs.Boards.{the_board, the_machine}
use Rattle.run_model.specs.Run.{Run}
use Rattle.run_model.specs.Agreement.{Agrees}
use Rattle.turn_model.specs.Board.{Board, Supply}
use Rattle.turn_model.specs.Ways.{Way, entered}
use Rattle.turn_model.specs.Steps.{commits, poll_at, touch_of}
use Rattle.turn_laws.specs.Supplies.{followed_by}
use Rattle.crew_parts.specs.Parts.{IsLed}
use Rattle.crew_parts.specs.Turns.{Took, Gave, IsSpent}
use Rattle.crew_core.specs.declared.order.Order.{Order}
use Rattle.crew_core.specs.declared.crew.Crew.{Crew}
use Rattle.crew_core.specs.Orders.{way_of}
use Rattle.crew_core.specs.Standing.{Stands, terms_of}

-- the step leads to a board for which the crew now stands, and which agrees with the run; the answer says whether the turn goes on,
-- and what console and clock have still to give is this
pub record Does (old new : Crew) (run : Run) (h : ℕ) (answer : Option Order) (step : Way FlatState) (left : Supply) : Type 0 where
  pub to : Board FlatState
  pub is : step ≡ way_of answer to
  pub supply : to.supply ≡ left
  pub stands : Stands new to
  pub agrees : Agrees run h to.at
  pub terms : terms_of new ≡ terms_of old

-- the hart made the entry, and the crew now stands for the board that this leads to
pub record Enters (old new : Crew) (run : Run) (h : ℕ) (e : Entry) (b : Board FlatState) : Type 0 where
  pub to : Board FlatState
  pub made : entered the_machine (terms_of old) h e b ≡ Some to
  pub supply : to.supply ≡ b.supply
  pub stands : Stands new to
  pub agrees : Agrees run h to.at

-- the moves since the hart's last turn are made, and what follows at once
pub record Commits (old new : Crew) (run : Run) (h n : ℕ) (b : Board FlatState) : Type 0 where
  pub to : Board FlatState
  pub made : commits the_machine (terms_of old) h n b ≡ Some to
  pub supply : to.supply ≡ b.supply
  pub stands : Stands new to
  pub agrees : Agrees run h to.at

-- how far a hart comes behind the favoured one
abbrev pub rank_in : Crew → ℕ → ℕ
rank_in c h = (h + c.harts - c.favoured) % c.harts

-- the favoured hart once the moves up to a count are committed
abbrev pub favour_after : Crew → ℕ → ℕ → ℕ
favour_after c h count = if (h == c.favoured) && (nat_lt (seat_of c.seats h).count count || (count == c.limit)) then (h + 1) % c.harts else c.favoured

-- what a clock tells of an access: it is asked for a load of a half of mtime alone, and else 0 stands for its answer
abbrev pub times_taken : DeviceWord → Option ℕ → ℕ → List ℕ
times_taken TimeLow None now = now ∷ []
times_taken TimeHigh None now = now ∷ []
times_taken word store now = []

abbrev pub IsAsked : DeviceWord → Option ℕ → ℕ → Type 0
IsAsked TimeLow None now = Unit {0}
IsAsked TimeHigh None now = Unit {0}
IsAsked word store now = now ≡ 0

-- a console that failed gives nothing further
abbrev pub GivesNoMore : Crew → Supply → Type 0
GivesNoMore c left = c.closed ≡ Some Fault → IsSpent left

-- no failure of the console closed the board
abbrev pub IsCalm : Crew → Crew → Type 0
IsCalm old new = new.closed ≡ Some Fault → old.closed ≡ Some Fault

abbrev pub bytes_sent : Crew → List ℕ
bytes_sent c = c.backing.devices.devices.sent

-- these bytes more were sent
abbrev pub Sends : Crew → Crew → List ℕ → Type 0
Sends old new bytes = bytes_sent new ≡ bytes_sent old ++ bytes

-- the bytes sent are those that the console took
abbrev pub TakesSent : Crew → Crew → SeenConsole → SeenConsole → Type 0
TakesSent old new c d = IsTrue d.tells_taken → (bytes : List ℕ) × (d.taken ≡ c.taken ++ bytes) × Sends old new bytes

-- a want is of the page, in a mode that conflicts with this one
abbrev pub wants_against : Option (ℕ × Mode) → ℕ → Mode → Bool
wants_against want page mode = is_some_and want (λ w. (w.0 == page) && conflicts w.1 mode)

-- a hart stands before h and has stored such a want
abbrev pub rivals : Crew → ℕ → ℕ → Mode → ℕ → Bool
rivals c h page mode g = nat_lt (rank_in c g) (rank_in c h) && wants_against (unwrap_or (slice_get c.directory.wants g) None) page mode

-- a step of a turn, on every board that the crew stands for and the run agrees with
abbrev pub StepDoes : Crew → Crew → Run → Run → ℕ → Option Order → (Board FlatState → Way FlatState) → Type 0
StepDoes old new before after h answer step =
    (b : Board FlatState) → Stands old b → Agrees before h b.at → Does old new after h answer (step b) b.supply

-- the hart makes the entry that such a board has for it
abbrev pub MakesEntry : Crew → Crew → Run → Run → ℕ → (Board FlatState → Entry) → Type 0
MakesEntry old new before after h entry =
    (b : Board FlatState) → Stands old b → Agrees before h b.at → Enters old new after h (entry b) b

-- the run made moves from such a board's state, which are committed, whatever board it is
abbrev pub IsMoved : Crew → Run → ℕ → Type 0
IsMoved c run h = (b : Board FlatState) × (n : ℕ) × Stands c b × IsLed run h n b.at

abbrev pub CommitsMoves : Crew → Crew → Run → ℕ → Type 0
CommitsMoves old new run h = (b : Board FlatState) (n : ℕ) → Stands old b → IsLed run h n b.at → Commits old new run h n b

-- a Poll at the greater of the clock's answer and mtime
abbrev pub PollEnters : Crew → Crew → Run → Run → ℕ → SeenClock → SeenClock → Type 0
PollEnters old new before after h k l =
    (now : ℕ) × Gave (now ∷ []) k l
    × MakesEntry old new before after h (λ b. poll_at the_machine (terms_of old) h b (max now (the_board.time b.at.flat)))

-- a step that asks the clock, where what the clock still gives begins with what it gave
abbrev pub TimesDo : Crew → Crew → Run → Run → ℕ → Option Order → (Board FlatState → Way FlatState) → SeenClock → SeenClock → Type 0
TimesDo old new before after h answer step k l =
    (times : List ℕ) × Gave times k l
    × ((b : Board FlatState) (left : List ℕ) → Stands old b → Agrees before h b.at → b.supply.times ≡ times ++ left
    → Does old new after h answer (step b) (record b.supply { times = left }))

-- a Touch of a device word, with the input that console and clock gave
abbrev pub TouchEnters : Crew → Crew → Run → Run → ℕ → DeviceWord → Option ℕ → ℕ → SeenConsole → SeenConsole → Type 0
TouchEnters old new before after h word store now c d =
    (a : Asked) × (IsTrue d.tells_answers → d.answers ≡ c.answers ++ answers_taken word store a)
    × MakesEntry old new before after h (λ b. touch_of the_machine (terms_of old) h b (recorded_input word store (the_board.time b.at.flat) now a))

-- a step that makes an access, where what console and clock still give begins with what they gave
abbrev pub AccessDoes : Crew → Crew → Run → Run → ℕ → Option Order → (Board FlatState → Way FlatState)
    → SeenConsole → SeenConsole → SeenClock → SeenClock → Type 0
AccessDoes old new before after h answer step c d k l =
    (given : Supply) × (IsTrue d.tells_answers → d.answers ≡ c.answers ++ given.answers)
    × (IsTrue d.tells_taken → Took given.takes c.taken d.taken) × Gave given.times k l
    × ((b : Board FlatState) (left : Supply) → Stands old b → Agrees before h b.at → GivesNoMore new left → b.supply ≡ followed_by given left
    → Does old new after h answer (step b) left)
