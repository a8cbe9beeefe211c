-- The crew still stands for the board once a page was gained or yielded.
use Rattle.std.proofs.Common.{◌≡◌, ◌≢◌, ◌⊎◌, inl, inr, ℕ, ◌+◌, ◌*◌, ◌<◌, ◌≤◌, ◌++◌, false, List, [], ◌∷◌, length, Some, None, slice_get, slice_index}
use Rattle.std.proofs.Common.{slice_set, unwrap_or, refl, sym, ap, ap₂, ◌∙◌, subst, arith}
use Rattle.std.specs.Option.{option_map}
use Rattle.std.proofs.lemmas.List.{length-set}
use Rattle.std.proofs.lemmas.Bool.{cases_eq}
use Rattle.std.proofs.lemmas.Option.{none-some, same_Some}
use Rattle.rv_words.specs.Limits.{page_bytes}
use Rattle.log_entry.specs.declared.log.Entry.{Entry}
use Rattle.log_entry.specs.declared.log.Entry.TheVariants.{Gain, Yield, Poll, Touch, End}
use Rattle.log_entry.specs.Parts.{page_number, holds_then, is_poll, is_touch}
use Rattle.log_entry.specs.Size.{size_of}
use Rattle.order_rules.specs.Cursor.{Cursor, taken}
use Rattle.device_board.specs.State.{Devices}
use Rattle.flat_machine.specs.State.{FlatState}
use Rattle.crew_parts.specs.Boards.{the_board}
use Rattle.order_rules.specs.Holders.{Holders, with_held, IsCrew}
use Rattle.replay_model.specs.Items.{Makes, effect, past}
use Rattle.replay_model.specs.State.{Replay}
use Rattle.privilege_directory.specs.Directory as directories
use Rattle.privilege_directory.specs.Directory.{yields_of}
use Rattle.crew_core.specs.Standing.{WaitsFollow}
use Rattle.std.proofs.lemmas.Option.{get_or_from_slice_get}
use Rattle.run_model.specs.Run.{Run}
use Rattle.run_model.specs.Agreement.{Agrees}
use Rattle.shared_types.proofs.Lists.{set_here}
use Rattle.board_backing.specs.declared.backing.Backing.{Backing}
use Rattle.board_backing.specs.Backing.{Backs}
use Rattle.board_backing.proofs.Backs.{HeldOnly}
use Rattle.crew_recording.specs.Recording.{stream_in}
use Rattle.crew_core.proofs.Machine.{index_there}
use Rattle.crew_recording.proofs.Items.{by_item}
use Rattle.crew_parts.specs.Boards.{the_machine}
use Rattle.turn_model.specs.Board.{Board, stream}
use Rattle.turn_model.specs.Ways.{entered}
use Rattle.turn_model.specs.Laws.{IsPagedBoard}
use Rattle.crew_core.proofs.Machine.{faithful}
use Rattle.crew_core.specs.declared.crew.Crew.{Crew}
use Rattle.crew_core.specs.declared.seat.Seat.{Seat}
use Rattle.crew_core.specs.Seats.{seat_of, with_entry, entered_at}
use Rattle.crew_core.specs.Standing.{Stands, AreNumbered, IsLatestPoll, log_so_far, terms_of}
use Rattle.crew_core.proofs.Sizes.{size_more}
use Rattle.crew_core.proofs.Waiting.{waits_more, numbered_more}
use Rattle.crew_core.proofs.Seated.{lanes_set, lane_of, lanes_size, seat_there, seated, latest_more, orders_kept, near_set}
use Rattle.order_rules.specs.Rules.{yields_after}

-- the board once a hart made an entry that led there
abbrev pub further : Board FlatState → ℕ → Entry → Replay FlatState → Board FlatState
further b h e at = record b { at = past the_board h e at; streams = slice_set b.streams h (stream b h ++ e ∷ []) }

pub entered_is : (c : Crew) (b : Board FlatState) (h : ℕ) (e : Entry) (at : Replay FlatState) → effect the_board b.at h e ≡ Some at
    → entered the_machine (terms_of c) h e b ≡ Some (further b h e at)
entered_is c b h e at is = ap (λ o. option_map (λ (s : Replay FlatState). record b { at = s; streams = slice_set b.streams h (stream b h ++ e ∷ []) })
    (option_map (past the_board h e) o)) is

pub past_agrees : (r : Run) (h : ℕ) (e : Entry) (at : Replay FlatState) → Agrees r h at → Agrees r h (past the_board h e at)
past_agrees r h e at a = record {
  unit_is = a.unit_is;
  harts = a.harts;
  memory = a.memory;
  table = a.table;
  rows = a.rows;
  hart = a.hart;
  count = a.count;
  modes = a.modes;
  bytes = a.bytes;
}

pub past_backs : (b : Backing) (h : ℕ) (e : Entry) (at : Replay FlatState) → Backs b at → Backs b (past the_board h e at)
past_backs b h e at backs = record {
  unit_is = backs.unit_is;
  number = backs.number;
  memory = backs.memory;
  devices_are = backs.devices_are;
  bytes =
      backs.bytes;
}

-- the cursor behind an entry of a page
cursor_of : (c : Cursor) (h page k : ℕ) (e : Entry) → page_number e ≡ Some (page, k) → ((taken c h e).numbers ≡ slice_set c.numbers page (k + 1))
    × ((taken c h e).ordinal ≡ c.ordinal)
cursor_of c h page k (Gain count p seq mode waits) is = (
  ap₂ (λ q n. slice_set c.numbers q (n + 1)) (ap (λ (x : ℕ × ℕ). x.0) (same_Some _ _ is))
      (ap (λ (x : ℕ × ℕ). x.1) (same_Some _ _ is)),
  refl,
)
cursor_of c h page k (Yield count p seq left) is = (
  ap₂ (λ q n. slice_set c.numbers q (n + 1)) (ap (λ (x : ℕ × ℕ). x.0) (same_Some _ _ is))
      (ap (λ (x : ℕ × ℕ). x.1) (same_Some _ _ is)),
  refl,
)
cursor_of c h page k (Poll count ord time bits) is = absurd (none-some _ is)
cursor_of c h page k (Touch count ord input) is = absurd (none-some _ is)
cursor_of c h page k (End count) is = absurd (none-some _ is)

-- what a directory did with a page: its holders, its next number and its Yields follow the entry
pub record Follows (d new : directories.Directory) (h page : ℕ) (e : Entry) : Type 0 where
  pub holders : new.holders ≡ with_held d.holders page h (holds_then e)
  pub numbers : new.numbers ≡ slice_set d.numbers page (slice_index d.numbers page + 1)
  pub yields : new.yields ≡ slice_set d.yields page (yields_after h e (yields_of d page))
  pub wants : new.wants ≡ d.wants
  pub crew : IsCrew new.holders

-- an entry of a page with the page's next number
pub record IsOfPage (e : Entry) (page k : ℕ) : Type 0 where
  pub number : page_number e ≡ Some (page, k)
  pub no_touch : is_touch e ≡ false
  pub no_poll : is_poll e ≡ false
  pub bytes : 16 ≤ size_of e

pub stands_page : (c : Crew) (b : Board FlatState) (h page : ℕ) (e : Entry) (at : Replay FlatState) (backing : Backing) (directory : directories.Directory)
    → Stands c b → h < c.harts → page < c.pages
    → IsOfPage e page (slice_index b.at.cursor.numbers page) → c.size + size_of e ≤ 536870912 → effect the_board b.at h e ≡ Some at
    → HeldOnly b.at at page h (holds_then e) → Backs backing at → backing.pages.unit ≡ page_bytes → Follows c.directory directory h page e
    → Stands (record c { backing = backing; directory = directory; seats = entered_at h e c.seats; size = c.size + size_of e }) (further b h e at)
stands_page c b h page e at backing directory st inside there of fits is only backs unit follows =
    let k = slice_index b.at.cursor.numbers page in
    let seats_inside : h < length c.seats = omega (arith, inside, st.harts) in
    let streams_size : length b.streams ≡ c.harts = ap (λ (xs : List (List Entry)). length xs) (sym st.streams) ∙ lanes_size c.seats ∙ st.harts in
    let streams_inside : h < length b.streams = omega (arith, inside, streams_size) in
    let numbers_inside : page < length b.at.cursor.numbers = (let z = ap (λ (xs : List ℕ). length xs) st.numbers in omega (arith, there, z, st.numbers_size)) in
    let table : length at.holders ≡ length b.at.holders = ap (λ (xs : Holders). length xs) only.holders ∙ length-set b.at.holders page _ in
    let cursor = cursor_of at.cursor h page k e of.number in
    let numbers_are : (taken at.cursor h e).numbers ≡ slice_set b.at.cursor.numbers page (k + 1) = cursor.0
    ∙ ap (λ (z : Cursor). slice_set z.numbers page (k + 1)) only.cursor in
    let ordinal_is : (taken at.cursor h e).ordinal ≡ b.at.cursor.ordinal = cursor.1 ∙ ap (λ (z : Cursor). z.ordinal) only.cursor in
    let numbers : directory.numbers ≡ (taken at.cursor h e).numbers = follows.numbers ∙ ap (λ xs. slice_set xs page (slice_index xs page + 1)) st.numbers
    ∙ sym numbers_are in
    let good = by_item the_board c.harts (IsPagedBoard c.harts c.pages) (faithful c.harts c.pages).steady b.at (past the_board h e at) h (Makes e) st.board
    (ap (option_map (past the_board h e)) is) in
    let count_same : (g : ℕ) → the_board.count at.flat g ≡ the_board.count b.at.flat g = λ g. ap (λ xs. slice_index xs g) only.counts in
    record {
      unit_is = unit;
      some = st.some;
      backs = past_backs backing h e at backs;
      holders = follows.holders ∙ ap (λ z. with_held z page h (holds_then e)) st.holders ∙ sym only.holders;
      numbers = numbers;
      wants = follows.wants ∙ st.wants;
      waits = subst (WaitsFollow (log_so_far (terms_of c) (slice_set b.streams h (stream b h ++ e ∷ []))) directory.yields) (sym numbers_are)
          (subst (λ ys. WaitsFollow (log_so_far (terms_of c) (slice_set b.streams h (stream b h ++ e ∷ []))) ys (slice_set b.at.cursor.numbers page (k + 1)))
          (sym follows.yields)
          (waits_more (terms_of c) b.streams c.directory.yields b.at.cursor.numbers h page e streams_inside numbers_inside
          (let z = ap (λ (xs : List ℕ). length xs) st.numbers in omega (arith, z, st.numbers_size, st.yields_size)) of.number st.numbered st.waits));
      numbered = subst (AreNumbered (slice_set b.streams h (stream b h ++ e ∷ []))) (sym numbers_are)
          (numbered_more b.streams b.at.cursor.numbers h page e streams_inside numbers_inside of.number st.numbered);
      ordinal = st.ordinal ∙ sym ordinal_is;
      streams = lanes_set c.seats h (with_entry e (seat_of c.seats h))
          ∙ ap₂ (λ (xs : List (List Entry)) s. slice_set xs h (s ++ e ∷ [])) st.streams (lane_of c.seats h ∙ ap (λ xs. stream_in xs h) st.streams);
      counts = λ g s sits. by_count g s (seated c.seats h g (with_entry e (seat_of c.seats h)) s seats_inside sits) (seat_there c.seats h seats_inside)
          count_same;
      polls = λ g s sits. by_poll g s (seated c.seats h g (with_entry e (seat_of c.seats h)) s seats_inside sits) (seat_there c.seats h seats_inside);
      orders = orders_kept c.seats h (with_entry e (seat_of c.seats h)) refl ∙ st.orders;
      near = near_set c.limit c.seats h (with_entry e (seat_of c.seats h)) seats_inside (st.near h (seat_of c.seats h) (seat_there c.seats h seats_inside))
          st.near;
      size = ap (λ n. n + size_of e) st.size ∙ sym (size_more (terms_of c) b (further b h e at) h e streams_inside refl);
      favoured = st.favoured;
      closed = st.closed;
      harts = length-set c.seats h _ ∙ st.harts;
      board = good.good;
      crew = subst IsCrew (follows.holders ∙ ap (λ z. with_held z page h (holds_then e)) st.holders ∙ sym only.holders) follows.crew;
      table = table ∙ st.table;
      numbers_size = ap (λ (xs : List ℕ). length xs) follows.numbers ∙ length-set c.directory.numbers page _ ∙ st.numbers_size;
      yields_size = ap length follows.yields ∙ length-set c.directory.yields page _ ∙ st.yields_size;
      wants_inside = λ g n is. st.wants_inside g n (ap (λ ws. unwrap_or (slice_get ws g) None) (sym follows.wants) ∙ is);
      limit = st.limit;
      wants_size = ap length follows.wants ∙ st.wants_size;
      ends = st.ends;
      device_harts = ap (λ (d : Devices). d.harts) (backs.devices_are ∙ only.devices ∙ sym st.backs.devices_are) ∙ st.device_harts;
      few = st.few;
      favours = st.favours;
      most_bytes = fits;
      numbers_fit = λ p. subst (λ ns. 16 * slice_index ns p ≤ c.size + size_of e) (sym numbers_are) (fit p (cases_eq p page) numbers_inside);
      ordinal_fits = (let z = st.ordinal_fits in omega (arith, z, ordinal_is));
    }
  where
    by_count : (g : ℕ) (s : Seat) → ((g ≡ h) × (with_entry e (seat_of c.seats h) ≡ s)) ⊎ ((g ≢ h) × (slice_get c.seats g ≡ Some s)) → slice_get c.seats h
        ≡ Some (seat_of c.seats h) → ((n : ℕ) → the_board.count at.flat n ≡ the_board.count b.at.flat n) → s.count ≡ the_board.count at.flat g
    by_count g s (inl (same, is_seat)) sits count_same = ap (λ (z : Seat). z.count) (sym is_seat) ∙ st.counts h (seat_of c.seats h) sits ∙ sym (count_same h)
        ∙ ap (the_board.count at.flat) (sym same)
    by_count g s (inr (other, at_g)) sits count_same = st.counts g s at_g ∙ sym (count_same g)

    by_poll : (g : ℕ) (s : Seat) → ((g ≡ h) × (with_entry e (seat_of c.seats h) ≡ s)) ⊎ ((g ≢ h) × (slice_get c.seats g ≡ Some s)) → slice_get c.seats h
        ≡ Some (seat_of c.seats h) → IsLatestPoll s.lane.entries s.polled s.count
    by_poll g s (inl (same, is_seat)) sits =
        subst (λ (z : Seat). IsLatestPoll z.lane.entries z.polled z.count) is_seat
        (latest_more (seat_of c.seats h).lane.entries e (seat_of c.seats h).polled (seat_of c.seats h).count of.no_poll
        (st.polls h (seat_of c.seats h) sits))
    by_poll g s (inr (other, at_g)) sits = st.polls g s at_g

    fit : (p : ℕ) → (p ≡ page) ⊎ (p ≢ page) → page < length b.at.cursor.numbers
        → 16 * slice_index (slice_set b.at.cursor.numbers page (slice_index b.at.cursor.numbers page + 1)) p ≤ c.size + size_of e
    fit p (inl same) l =
        let now = get_or_from_slice_get (slice_set b.at.cursor.numbers page (slice_index b.at.cursor.numbers page + 1)) page
        (slice_index b.at.cursor.numbers page + 1) 0 (set_here b.at.cursor.numbers page (slice_index b.at.cursor.numbers page + 1) l) in
        let z = st.numbers_fit page in let w = of.bytes in
        subst (λ q. 16 * slice_index (slice_set b.at.cursor.numbers page (slice_index b.at.cursor.numbers page + 1)) q ≤ c.size + size_of e) (sym same)
        (omega (arith, now, z, w))
    fit p (inr n) l = let z = st.numbers_fit p in let now = index_there b.at.cursor.numbers page p (slice_index b.at.cursor.numbers page + 1) n in omega
        (arith, now, z)
