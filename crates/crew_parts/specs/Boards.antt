-- The recorder's board as plain data, and the board of turns that it stands for (docs/recorder.md).
use Rattle.std.specs.Prelude.{ℕ, ◌≡◌, ◌<◌, ◌≤◌, ◌==◌, ◌||◌, Bool, false, List, [], ◌∷◌, length, replicate, slice_get, slice_index}
use Rattle.std.specs.Prelude.{Option, Some, None, is_some, unwrap_or, if◌then◌else◌}
use Rattle.std.specs.List.{list_all}
use Rattle.std.specs.Option.{option_and_then}
use Rattle.rv_words.specs.Limits.{page_bytes}
use Rattle.rv_words.specs.declared.shared.Cause.{Cause}
use Rattle.rv_words.specs.declared.shared.Cause.TheVariants.{Limit, Cut}
use Rattle.rv_words.specs.declared.shared.Mode.{Mode}
use Rattle.rv_hart.specs.State.{Hart}
use Rattle.elf_image.specs.Image.{Image, IsWhole, start_digest}
use Rattle.outside.specs.Seen.{SeenConsole, SeenClock}
use Rattle.log_entry.specs.declared.log.Entry.{Entry}
use Rattle.log_entry.specs.declared.log.Log.{Log}
use Rattle.log_entry.specs.Room.{log_without_room}
use Rattle.flat_machine.specs.State.{FlatState, flat_at_start}
use Rattle.flat_machine.specs.Runs.{final_of}
use Rattle.flat_machine.specs.declared.results.Final.{Final}
use Rattle.flat_machine.specs.declared.results.Step.{Step}
use Rattle.replay_model.specs.Flat.{Flat}
use Rattle.replay_model.specs.Board.{board}
use Rattle.replay_model.specs.Items.{step}
use Rattle.replay_model.specs.Journal.{order_of}
use Rattle.replay_model.specs.State.{Replay, IsCrewState, start}
use Rattle.crew_recording.specs.Recording.{with_ends}
use Rattle.turn_model.specs.Recordable.{Recordable, board_machine}
use Rattle.turn_model.specs.Board.{Board, Order, Go, Supply, Terms, log_with, log_of}
use Rattle.turn_laws.specs.Reached.{Reached}
use Rattle.run_model.specs.Numbers.{AreNumbered}

-- the flat machine that is recorded: so many bytes are owned together as recordings' terms say
abbrev pub the_board : Flat FlatState (List Step)
the_board = board page_bytes

abbrev pub the_machine : Recordable FlatState (List Step)
the_machine = board_machine page_bytes

-- what is seen of a console and a clock
pub record World : Type 0 where
  pub console : SeenConsole
  pub clock : SeenClock

abbrev pub world : SeenConsole → SeenClock → World
world console clock = record { console = console; clock = clock }

-- The terms, among them what console and clock had given and taken when the board was made (`first`); the entries of each hart so far,
-- without the room of their waits, and the moves that its turns committed; the journal, the turns, the stored wants and the last
-- orders; the favoured hart and the cause that closed the board; whether it was abandoned for want of memory; whether there is room
-- for a turn; and what console and clock have given and taken so far.
pub record Plain : Type 0 where
  pub image : Image
  pub harts : ℕ
  pub limit : ℕ
  pub log_limit : ℕ
  pub first : World
  pub streams : List (List Entry)
  pub counts : List ℕ
  pub journal : List (ℕ × ℕ)
  pub turns : List (ℕ × ℕ)
  pub wants : List (Option (ℕ × Mode))
  pub orders : List (Option Order)
  pub favoured : ℕ
  pub closed : Option Cause
  pub abandoned : Bool
  pub prepared : Bool
  pub now : World

abbrev pub terms_of : Plain → Terms
terms_of p = record { pages = p.image.pages; image = start_digest p.image; limit = p.limit; log_limit = p.log_limit }

-- the log so far, with an End for each hart; its cause tells nothing of where it leads
abbrev pub log_now : Plain → Log
log_now p = log_with (terms_of p) (with_ends (slice_index p.counts) p.streams) Limit

-- where an order leads under a log, as far as each hart in turn can go
abbrev pub follow : Log → List ℕ → Replay FlatState → Option (Replay FlatState)
follow log [] s = Some s
follow log (h ∷ order) s = option_and_then (λ m. follow log order m.0) (step the_board log h s)

abbrev pub first_state : Plain → Replay FlatState
first_state p = start (log_now p) (flat_at_start p.image p.harts)

-- the flat state, the cursor and the holders to which the journal leads, which no code stores
unfoldable pub state_of : Plain → Replay FlatState
state_of p = unwrap_or (follow (log_now p) (order_of p.journal) (first_state p)) (first_state p)

-- the board of turns, where console and clock have this still to give
abbrev pub board_of : Plain → Supply → Board FlatState
board_of p left = record {
  at = state_of p;
  streams = p.streams;
  journal = p.journal;
  turns = p.turns;
  wants = p.wants;
  orders = p.orders;
  favoured = p.favoured;
  closed = p.closed;
  supply = left;
}

-- nothing is left to give
abbrev pub spent : Supply
spent = record { answers = []; takes = 0; times = [] }

-- turns led from the board before any turn to this one, with what console and clock gave for them
abbrev pub IsReached : Plain → Type 0
IsReached p = (given : Supply) × Reached the_machine (terms_of p) p.harts (flat_at_start p.image p.harts) given (board_of p spent)

abbrev pub told_to : Plain → ℕ → Option Order
told_to p h = unwrap_or (slice_get p.orders h) None

-- the count up to which a hart may move before its next turn
abbrev pub until_by : ℕ → Option Order → ℕ
until_by count (Some (Go until)) = until
until_by count order = count

abbrev pub until_of : Plain → ℕ → ℕ
until_of p h = until_by (slice_index p.counts h) (told_to p h)

-- what holds of every board
pub record IsBoardOf (p : Plain) : Type 0 where
  pub whole : IsWhole p.image
  pub some : 1 ≤ p.harts
  pub few : p.harts ≤ 8
  pub favours : p.favoured < p.harts
  pub streams : length p.streams ≡ p.harts
  pub wants : length p.wants ≡ p.harts
  pub orders : length p.orders ≡ p.harts
  pub counts : p.counts ≡ (state_of p).flat.counts
  pub ahead : (h : ℕ) → h < p.harts → slice_index p.counts h ≤ until_of p h
  pub crew : IsCrewState the_board (state_of p)
  pub numbered : AreNumbered (state_of p).flat
  pub reached : IsReached p

-- it is closed, or each hart is at the limit
abbrev pub is_over_in : Plain → Bool
is_over_in p = is_some p.closed || list_all (λ n. n == p.limit) p.counts

abbrev pub cut_in : Plain → Plain
cut_in p = if is_over_in p then p else record p { closed = Some Cut }

-- what the board comes to: a log with one End for each hart at its count, and the flat state
pub record EndsAs (p : Plain) (log : Log) (ended : Final) (journal turns : List (ℕ × ℕ)) : Type 0 where
  pub log_is : (left : Supply) → log_without_room log ≡ log_of the_machine (terms_of p) (board_of p left)
  pub ended_is : ended ≡ final_of (state_of p).flat log.cause
  pub journal_is : journal ≡ p.journal
  pub turns_are : turns ≡ p.turns

-- a board before any turn
abbrev pub plain_at_start : Image → ℕ → ℕ → ℕ → World → Plain
plain_at_start image harts limit log_limit world = record {
  image = image;
  harts = harts;
  limit = limit;
  log_limit = log_limit;
  first = world;
  streams = replicate harts [];
  counts = replicate harts 0;
  journal = [];
  turns = [];
  wants = replicate harts None;
  orders = replicate harts None;
  favoured = 0;
  closed = None;
  abandoned = false;
  prepared = false;
  now = world;
}
