-- What the calls of a crew say.
use Rattle.std.specs.Prelude.{ℕ, ◌≡◌, ◌+◌, ◌-◌, ◌*◌, ◌/◌, ◌%◌, ◌≤◌, ◌==◌, ◌&&◌, ◌∷◌, [], List, if◌then◌else◌, not, nat_lt, Bool, find, slice_index}
use Rattle.std.specs.Prelude.{slice_set, Option, Some, None}
use Rattle.std.specs.List.{range_with_len}
use Rattle.std.specs.Option.{option_or}
use Rattle.rv_words.specs.declared.shared.Mode.{Mode}
use Rattle.elf_image.specs.Image.{Image, start_digest}
use Rattle.rv_words.specs.declared.shared.DeviceWord.{DeviceWord}
use Rattle.log_entry.specs.declared.log.Entry.{Entry}
use Rattle.log_entry.specs.declared.log.Entry.TheVariants.{Yield}
use Rattle.log_entry.specs.Parts.{conflict}
use Rattle.log_entry.specs.Waits.{WaitList}
use Rattle.rv_words.specs.declared.shared.TheConstants.{MAX_HARTS}
use Rattle.run_model.specs.declared.asked.Ahead.{Ahead}
use Rattle.run_model.specs.declared.asked.Ahead.TheVariants.{Wants}
use Rattle.turn_model.specs.Ways.{Way, On, goes}
use Rattle.flat_machine.specs.State.{FlatState, flat_at_start}
use Rattle.order_rules.specs.Holders.{held}
use Rattle.order_rules.specs.Places.{is_number}
use Rattle.privilege_directory.specs.Directory.{clash_of}
use Rattle.run_model.specs.Run.{Run, claim_of}
use Rattle.run_model.specs.Agreement.{Agrees}
use Rattle.turn_model.specs.Board.{Board, Supply, Terms, board_at_start}
use Rattle.turn_model.specs.Claims as claims
use Rattle.turn_model.specs.Steps as steps
use Rattle.rv_words.specs.Limits.{poll_distance}
use Rattle.crew_core.specs.declared.order.Order.{Order}
use Rattle.crew_core.specs.declared.crew.Crew.{Crew}
use Rattle.crew_core.specs.declared.rules.TheConstants.{DEVICE_BYTES}
use Rattle.crew_parts.specs.Boards.{the_board, the_machine}
use Rattle.crew_core.specs.Seats.{counted_at}
use Rattle.crew_core.specs.Standing.{Stands, terms_of}
use Rattle.crew_core.specs.Does.{StepDoes, rank_in, rivals, favour_after}

abbrev pub terms_at : Image → ℕ → ℕ → Terms
terms_at image limit log_limit = record { pages = image.pages; image = start_digest image; limit = limit; log_limit = log_limit }

-- the crew stands for the board before any turn, whatever console and clock give
abbrev pub StandsAtStart : Image → ℕ → Crew → Type 0
StandsAtStart image harts c = (supply : Supply) → Stands c (board_at_start (terms_of c) harts (flat_at_start image harts) supply)

-- a page's entry was made: nothing but pages, directory, the hart's seat and the size is another
abbrev pub MakesPageEntry : Crew → Crew → ℕ → Type 0
MakesPageEntry old new size = new ≡ record old { backing = new.backing; directory = new.directory; seats = new.seats; size = size }

-- an entry with an ordinal was made
abbrev pub MakesOrdinalEntry : Crew → Crew → Type 0
MakesOrdinalEntry old new = new ≡ record old { backing = new.backing; ordinal = new.ordinal; seats = new.seats; size = old.size + DEVICE_BYTES }

-- the least other hart that holds the page in conflict, else the least that stands before and wants it
abbrev pub keeper_in : Crew → ℕ → ℕ → Mode → Option ℕ
keeper_in c h page mode = option_or (clash_of c.directory h page mode) (find (rivals c h page mode) (range_with_len 0 c.harts))

abbrev pub KeptBy : Crew → ℕ → ℕ → Mode → Option ℕ → Type 0
KeptBy c h page mode o = (b : Board FlatState) → Stands c b → o ≡ claims.kept_by b h (page, mode)

abbrev pub wanting : Crew → ℕ → Option (ℕ × Mode) → Crew
wanting c h want = record c { directory = record c.directory { wants = slice_set c.directory.wants h want } }

-- the moves of the run are committed
abbrev pub committed_in : Crew → Run → ℕ → Crew
committed_in c run h =
    record c {
      seats = counted_at h run.count c.seats;
      directory = record c.directory { wants = slice_set c.directory.wants h None };
      favoured = favour_after c h run.count;
    }

abbrev pub claims_in : Crew → Run → ℕ → Mode → Bool
claims_in c run page mode = not (run.count == c.limit) && conflict (claim_of run page) (Some mode)

abbrev pub yields_in : Crew → Run → ℕ → ℕ → ℕ → Mode → Bool
yields_in c run h g page mode =
    conflict (held c.directory.holders page h) (Some mode) && not (claims_in c run page mode && nat_lt (rank_in c h) (rank_in c g))

abbrev pub YieldsNow : Crew → Run → ℕ → ℕ → ℕ → Mode → Bool → Type 0
YieldsNow c run h g page mode now =
    (b : Board FlatState) → Stands c b → Agrees run h b.at → now ≡ steps.yields_now the_machine (terms_of c) h g (page, mode) b

abbrev pub due_at : ℕ → ℕ → Option ℕ → Bool
due_at count limit polled = nat_lt count limit && ((count % poll_distance == 0) && not (is_number count polled))

abbrev pub IsDue : Crew → Run → ℕ → Bool → Type 0
IsDue c run h due = (b : Board FlatState) → Stands c b → Agrees run h b.at → due ≡ steps.is_due the_machine (terms_of c) h b

-- what follows a Touch, whatever the run
abbrev pub BehindTouch : Crew → Crew → ℕ → Option Order → Type 0
BehindTouch old new h answer = (r : Run) → StepDoes old new r r h answer (steps.behind_touch the_machine (terms_of old) h)

-- a Yield by the hart at its count, with the page's next number
abbrev pub yield_by : ℕ → ℕ → Option Mode → Board FlatState → Entry
yield_by h page left b = Yield (the_board.count b.at.flat h) page (slice_index b.at.cursor.numbers page) left

-- there is room for a wait for each other hart, and none is there yet
abbrev pub IsRoomy : WaitList → Type 0
IsRoomy waits = (waits.items ≡ []) × (MAX_HARTS - 1 ≤ waits.room)

-- the next move isn't kept from anything by a page
abbrev pub IsNotWanting : Ahead → Type 0
IsNotWanting ahead = (page : ℕ) (mode : Mode) → ahead ≡ Wants page mode → ⊥

-- the access of a device word is made, where there was room for it
abbrev pub word_touched : Crew → ℕ → DeviceWord → Option ℕ → Board FlatState → Way FlatState
word_touched c h word store b = steps.touches_with the_machine (terms_of c) h word store b (steps.console_gives word store b.supply)

-- a step that changes nothing, whatever the run
abbrev pub Rests : Crew → ℕ → Option Order → Type 0
Rests c h answer = (r : Run) → StepDoes c c r r h answer (steps.rests_where_closed the_machine (terms_of c))

-- the board isn't closed, and stop isn't set
abbrev pub IsOpen : Crew → Type 0
IsOpen c = (c.closed ≡ None) × (c.backing.devices.devices.stop ≡ None)

-- the least count at which a Poll is due, not below this one, that has none yet, the latest one standing there
abbrev pub poll_after : ℕ → Option ℕ → ℕ
poll_after count polled = from ((count + (poll_distance - 1)) / poll_distance * poll_distance) where
  from : ℕ → ℕ
  from due = if is_number due polled then due + poll_distance else due

-- the latest Poll, if any, stands at no greater count
abbrev pub IsPast : Option ℕ → ℕ → Type 0
IsPast None count = Unit {0}
IsPast (Some last) count = last ≤ count

-- the hart is told to go on, which ends its turn
abbrev pub GoesOn : Crew → Run → ℕ → Order → Type 0
GoesOn c run h order = StepDoes c c run run h (Some order) (steps.goes_on the_machine (terms_of c) h)

-- the steps up to the hart's yields, and those behind them
abbrev pub first_steps : Terms → ℕ → List (Board FlatState → Way FlatState)
first_steps t h =
    steps.rests_where_closed the_machine t ∷ steps.polls the_machine t h ∷ steps.yields the_machine t h ∷ steps.rests_at_limit the_machine t h ∷ []

abbrev pub last_steps : Terms → ℕ → List (Board FlatState → Way FlatState)
last_steps t h = steps.gains the_machine t h ∷ steps.touches the_machine t h ∷ steps.rests_at_limit the_machine t h ∷ steps.goes_on the_machine t h ∷ []

abbrev pub device_steps : Terms → ℕ → List (Board FlatState → Way FlatState)
device_steps t h = steps.touches the_machine t h ∷ steps.rests_at_limit the_machine t h ∷ steps.goes_on the_machine t h ∷ []

abbrev pub closing_steps : Terms → ℕ → List (Board FlatState → Way FlatState)
closing_steps t h = steps.rests_at_limit the_machine t h ∷ steps.goes_on the_machine t h ∷ []

abbrev pub first_of : Crew → ℕ → Board FlatState → Way FlatState
first_of c h b = goes (first_steps (terms_of c) h) (On b)

abbrev pub last_of : Crew → ℕ → Board FlatState → Way FlatState
last_of c h b = goes (last_steps (terms_of c) h) (On b)

abbrev pub devices_of : Crew → ℕ → Board FlatState → Way FlatState
devices_of c h b = goes (device_steps (terms_of c) h) (On b)

abbrev pub closing_of : Crew → ℕ → Board FlatState → Way FlatState
closing_of c h b = goes (closing_steps (terms_of c) h) (On b)

abbrev pub all_of : Crew → ℕ → Board FlatState → Way FlatState
all_of c h b = goes (steps.steps the_machine (terms_of c) h) (On b)
