-- The board of turns that the recorder's board stands for.
use Rattle.std.specs.Prelude.{vec_capacity, ℕ, ◌≡◌, ◌+◌, ◌*◌, ◌<◌, ◌≤◌, false, true, List, map, length, slice_get, slice_index, Option, Some, None}
use Rattle.std.specs.Prelude.{unwrap_or, []}
use Rattle.rv_words.specs.Limits.{page_bytes, poll_distance, longest_log}
use Rattle.rv_words.specs.declared.shared.Mode.{Mode}
use Rattle.log_entry.specs.declared.log.Entry.{Entry}
use Rattle.log_entry.specs.declared.waits.WaitFor.{WaitFor}
use Rattle.privilege_directory.specs.Directory.{by_others}
use Rattle.log_entry.specs.declared.log.Log.{Log}
use Rattle.log_entry.specs.Parts.{page_number}
use Rattle.rv_words.specs.declared.shared.Cause.TheVariants.{Limit}
use Rattle.order_rules.specs.Rules.{has_poll, waits_due}
use Rattle.flat_machine.specs.State.{FlatState}
use Rattle.crew_parts.specs.Boards.{the_board}
use Rattle.order_rules.specs.Holders.{IsCrew}
use Rattle.run_model.specs.Run.{Run}
use Rattle.run_model.specs.Agreement.{Agrees}
use Rattle.board_backing.specs.Backing.{Backs}
use Rattle.board_backing.specs.Ends.{HasPlaces}
use Rattle.board_backing.specs.declared.ends.Ends.{Ends}
use Rattle.crew_parts.specs.Boards.{the_machine}
use Rattle.turn_model.specs.Board.{Board, Terms, log_with}
use Rattle.turn_model.specs.Ways.{log_size}
use Rattle.turn_model.specs.Laws.{IsPagedBoard}
use Rattle.crew_core.specs.declared.crew.Crew.{Crew}
use Rattle.crew_core.specs.declared.seat.Seat.{Seat}
use Rattle.crew_core.specs.Orders.{told_of}
use Rattle.crew_core.specs.Seats.{reach}

-- what turns ask of the terms
abbrev pub terms_of : Crew → Terms
terms_of c = record { pages = c.pages; image = c.image; limit = c.limit; log_limit = c.log_limit }

-- a Gain by any hart that took a page's next number would wait for the Yields by others
abbrev pub WaitsFollow : Log → List (List WaitFor) → List ℕ → Type 0
WaitsFollow log yields numbers =
    (page h : ℕ) → page < length yields → waits_due log page h (slice_index numbers page) ≡ by_others h (unwrap_or (slice_get yields page) [])

-- each Gain and Yield of a page so far has a number below the page's next one
abbrev pub AreNumbered : List (List Entry) → List ℕ → Type 0
AreNumbered streams numbers =
    (g i page k : ℕ) (e : Entry) → slice_get (unwrap_or (slice_get streams g) []) i ≡ Some e → page_number e ≡ Some (page, k) → k < slice_index numbers page

-- the log so far, without Ends
abbrev pub log_so_far : Terms → List (List Entry) → Log
log_so_far terms streams = log_with terms streams Limit

-- a hart's latest Poll stands at this count, and none at a greater one
abbrev pub IsLatestPoll : List Entry → Option ℕ → ℕ → Type 0
IsLatestPoll entries None count = (n : ℕ) → has_poll entries n ≡ false
IsLatestPoll entries (Some last) count = (has_poll entries last ≡ true) × (last ≤ count) × ((n : ℕ) → last < n → has_poll entries n ≡ false)

-- there is room for the end: a place for each hart, each count and each byte of the memory, and for each stream
abbrev pub HasEndRoom : Ends → List (List Entry) → ℕ → ℕ → ℕ → Type 0
HasEndRoom ends streams room harts pages = HasPlaces ends harts (page_bytes * pages) × (streams ≡ []) × (harts ≤ room)

-- the hart is within the limit, and may go on no further than that and the distance of Polls
abbrev pub IsNear : ℕ → Seat → Type 0
IsNear limit s = (s.count ≤ limit) × (reach s ≤ limit) × (reach s ≤ s.count + poll_distance)

-- The holders, numbers and wants are the directory's, the devices and the pages that no hart holds in Write the backing's, and the rest
-- what the board keeps. Sizes and numbers are in bounds, since each entry takes at least 16 bytes of the log.
pub record Stands (c : Crew) (b : Board FlatState) : Type 0 where
  pub unit_is : c.backing.pages.unit ≡ page_bytes
  pub some : 1 ≤ c.pages
  pub backs : Backs c.backing b.at
  pub holders : c.directory.holders ≡ b.at.holders
  pub numbers : c.directory.numbers ≡ b.at.cursor.numbers
  pub wants : c.directory.wants ≡ b.wants
  pub waits : WaitsFollow (log_so_far (terms_of c) b.streams) c.directory.yields b.at.cursor.numbers
  pub numbered : AreNumbered b.streams b.at.cursor.numbers
  pub ordinal : c.ordinal ≡ b.at.cursor.ordinal
  pub streams : map (λ (s : Seat). s.lane.entries) c.seats ≡ b.streams
  pub counts : (g : ℕ) (s : Seat) → slice_get c.seats g ≡ Some s → s.count ≡ the_board.count b.at.flat g
  pub polls : (g : ℕ) (s : Seat) → slice_get c.seats g ≡ Some s → IsLatestPoll s.lane.entries s.polled s.count
  pub orders : map (λ (s : Seat). told_of s.order) c.seats ≡ b.orders
  pub near : (g : ℕ) (s : Seat) → slice_get c.seats g ≡ Some s → IsNear c.limit s
  pub size : c.size ≡ log_size the_machine (terms_of c) b
  pub favoured : c.favoured ≡ b.favoured
  pub closed : c.closed ≡ b.closed
  pub harts : length c.seats ≡ c.harts
  pub board : IsPagedBoard c.harts c.pages b.at.flat
  pub crew : IsCrew b.at.holders
  pub table : length b.at.holders ≡ c.pages
  pub numbers_size : length c.directory.numbers ≡ c.pages
  pub yields_size : length c.directory.yields ≡ c.pages
  pub wants_inside : (g : ℕ) (n : ℕ × Mode) → unwrap_or (slice_get c.directory.wants g) None ≡ Some n → n.0 < c.pages
  pub wants_size : length c.directory.wants ≡ c.harts
  pub ends : HasEndRoom c.ends c.streams.items (vec_capacity c.streams) c.harts c.pages
  pub device_harts : c.backing.devices.devices.harts ≡ c.harts
  pub few : c.harts ≤ 8
  pub favours : c.favoured < c.harts
  pub limit : c.log_limit ≤ longest_log
  pub most_bytes : c.size ≤ longest_log
  pub numbers_fit : (page : ℕ) → 16 * slice_index b.at.cursor.numbers page ≤ c.size
  pub ordinal_fits : 16 * b.at.cursor.ordinal ≤ c.size

-- some board that the crew stands for agrees with the run of a hart
abbrev pub IsTied : Crew → Run → ℕ → Type 0
IsTied c run h = (b : Board FlatState) × Stands c b × Agrees run h b.at
