-- The crew still stands for the board once a hart made a Poll or a Touch.
use Rattle.std.proofs.Common.{◌≡◌, ◌≢◌, ◌⊎◌, inl, inr, ℕ, ◌+◌, ◌*◌, ◌<◌, ◌≤◌, ◌==◌, ◌&&◌, ◌||◌, ◌++◌, Bool, true, false, List, [], ◌∷◌, length, Option}
use Rattle.std.proofs.Common.{Some, None, slice_get, slice_index, slice_set, refl, sym, ap, ap₂, ◌∙◌, subst, arith}
use Rattle.std.specs.Option.{option_map}
use Rattle.std.proofs.lemmas.List.{length-set}
use Rattle.std.proofs.lemmas.Bool.{eq-eqb, ne_eqb}
use Rattle.rv_words.specs.Limits.{page_bytes}
use Rattle.log_entry.specs.declared.log.Entry.{Entry}
use Rattle.log_entry.specs.declared.log.Entry.TheVariants.{Poll}
use Rattle.log_entry.specs.Parts.{page_number, is_poll, count_of}
use Rattle.log_entry.specs.Size.{size_of}
use Rattle.order_rules.specs.Rules.{has_poll}
use Rattle.order_rules.specs.Cursor.{Cursor, taken}
use Rattle.flat_machine.specs.State.{FlatState}
use Rattle.flat_machine.specs.declared.act.Act.{Act}
use Rattle.flat_machine.specs.declared.act.Act.TheVariants as acts
use Rattle.crew_parts.specs.Boards.{the_board}
use Rattle.order_rules.specs.Holders.{Holders, IsCrew}
use Rattle.replay_model.specs.Items.{Makes, effect, acted, past}
use Rattle.replay_model.specs.State.{Replay}
use Rattle.shared_types.proofs.Lists.{mapped}
use Rattle.board_backing.specs.declared.backing.Backing.{Backing}
use Rattle.board_backing.specs.Backing.{Backs}
use Rattle.crew_core.specs.Standing.{WaitsFollow}
use Rattle.crew_recording.specs.Recording.{stream_in}
use Rattle.crew_recording.proofs.Items.{by_item}
use Rattle.crew_recording.proofs.OrderedRecordings.{did_entry}
use Rattle.turn_model.specs.Board.{Board, stream}
use Rattle.turn_model.specs.Laws.{IsPagedBoard}
use Rattle.crew_core.proofs.Machine.{faithful}
use Rattle.crew_core.specs.declared.crew.Crew.{Crew}
use Rattle.crew_core.specs.declared.seat.Seat.{Seat}
use Rattle.crew_core.specs.Seats.{seat_of}
use Rattle.crew_core.specs.Standing.{Stands, IsNear, AreNumbered, IsLatestPoll, log_so_far, terms_of}
use Rattle.crew_core.proofs.Sizes.{size_more}
use Rattle.crew_core.proofs.Waiting.{waits_still, numbered_still}
use Rattle.crew_core.proofs.Seated.{lanes_set, lane_of, lanes_size, seated, orders_kept, near_set}
use Rattle.crew_core.proofs.Entries.{further, past_backs}

-- an entry with the next ordinal, and no page
pub record IsOrdinal (e : Entry) (ord : ℕ) : Type 0 where
  pub act : ℕ → Act
  pub acts : (s : Replay FlatState) (h : ℕ) → effect the_board s h e ≡ acted the_board s (act h)
  pub no_page : page_number e ≡ None
  pub cursor : (c : Cursor) (h : ℕ) → ((taken c h e).numbers ≡ c.numbers) × ((taken c h e).ordinal ≡ ord + 1)
  pub bytes : 16 ≤ size_of e

-- the seat behind it
pub record SeatAfter (old new : Seat) (e : Entry) (n : ℕ) : Type 0 where
  pub entries : new.lane.entries ≡ old.lane.entries ++ e ∷ []
  pub count : new.count ≡ n
  pub polls : IsLatestPoll new.lane.entries new.polled new.count
  pub order : new.order ≡ old.order

pub stands_ordinal : (c : Crew) (b : Board FlatState) (h : ℕ) (e : Entry) (at : Replay FlatState) (backing : Backing) (after : Seat) → Stands c b
    → h < c.harts → IsOrdinal e b.at.cursor.ordinal → c.size + size_of e ≤ 536870912
    → effect the_board b.at h e ≡ Some at → Backs backing at → backing.pages.unit ≡ page_bytes → backing.devices.devices.harts
    ≡ c.backing.devices.devices.harts → SeatAfter (seat_of c.seats h) after e (the_board.count at.flat h) → IsNear c.limit after
    → Stands (record c { backing = backing; ordinal = c.ordinal + 1; seats = slice_set c.seats h after; size = c.size + size_of e }) (further b h e at)
stands_ordinal c b h e at backing after st inside of fits is backs unit device_harts seat near =
    let seats_inside : h < length c.seats = omega (arith, inside, st.harts) in
    let streams_size : length b.streams ≡ c.harts = ap (λ (xs : List (List Entry)). length xs) (sym st.streams) ∙ lanes_size c.seats ∙ st.harts in
    let streams_inside : h < length b.streams = omega (arith, inside, streams_size) in
    let steady = faithful c.harts c.pages in
    let good = by_item the_board c.harts (IsPagedBoard c.harts c.pages) steady.steady b.at (past the_board h e at) h (Makes e) st.board
    (ap (option_map (past the_board h e)) is) in
    let did = did_entry the_board c.harts (IsPagedBoard c.harts c.pages) steady.steady steady.timed c.pages c.limit b.at at h e st.board is in
    let a = mapped (λ (f : FlatState). record b.at { flat = f }) (the_board.next b.at.flat (of.act h)) at (sym (of.acts b.at h) ∙ is) in
    let holders : at.holders ≡ b.at.holders = sym (ap (λ (z : Replay FlatState). z.holders) a.2) in
    let cursor : at.cursor ≡ b.at.cursor = sym (ap (λ (z : Replay FlatState). z.cursor) a.2) in
    let moved = of.cursor at.cursor h in
    let numbers : (taken at.cursor h e).numbers ≡ b.at.cursor.numbers = moved.0 ∙ ap (λ (z : Cursor). z.numbers) cursor in
    record {
      unit_is = unit;
      some = st.some;
      backs = past_backs backing h e at backs;
      holders = st.holders ∙ sym holders;
      numbers = st.numbers ∙ sym numbers;
      wants = st.wants;
      waits = subst (WaitsFollow (log_so_far (terms_of c) (slice_set b.streams h (stream b h ++ e ∷ []))) c.directory.yields) (sym numbers)
          (waits_still (terms_of c) b.streams c.directory.yields b.at.cursor.numbers h e of.no_page st.waits);
      numbered = subst (AreNumbered (slice_set b.streams h (stream b h ++ e ∷ []))) (sym numbers)
          (numbered_still b.streams b.at.cursor.numbers h e streams_inside of.no_page st.numbered);
      ordinal = ap (λ n. n + 1) st.ordinal ∙ sym moved.1;
      streams = lanes_set c.seats h after ∙ ap₂ (λ (xs : List (List Entry)) s. slice_set xs h s) st.streams
          (seat.entries ∙ ap (λ s. s ++ e ∷ []) (lane_of c.seats h ∙ ap (λ xs. stream_in xs h) st.streams));
      counts = λ g s sits. by_count g s (seated c.seats h g after s seats_inside sits) did.others;
      polls = λ g s sits. by_poll g s (seated c.seats h g after s seats_inside sits);
      orders = orders_kept c.seats h after seat.order ∙ st.orders;
      near = near_set c.limit c.seats h after seats_inside near st.near;
      size = ap (λ n. n + size_of e) st.size ∙ sym (size_more (terms_of c) b (further b h e at) h e streams_inside refl);
      favoured = st.favoured;
      closed = st.closed;
      harts = length-set c.seats h _ ∙ st.harts;
      board = good.good;
      crew = subst IsCrew (sym holders) st.crew;
      table = ap (λ (xs : Holders). length xs) holders ∙ st.table;
      numbers_size = st.numbers_size;
      yields_size = st.yields_size;
      wants_inside = st.wants_inside;
      limit = st.limit;
      wants_size = st.wants_size;
      ends = st.ends;
      device_harts = device_harts ∙ st.device_harts;
      few = st.few;
      favours = st.favours;
      most_bytes = fits;
      numbers_fit = λ p. subst (λ ns. 16 * slice_index ns p ≤ c.size + size_of e) (sym numbers) (let z = st.numbers_fit p in omega (arith, z));
      ordinal_fits = (let z = st.ordinal_fits in let m = moved.1 in let w = of.bytes in omega (arith, z, m, w));
    }
  where
    by_count : (g : ℕ) (s : Seat) → ((g ≡ h) × (after ≡ s)) ⊎ ((g ≢ h) × (slice_get c.seats g ≡ Some s))
        → ((g : ℕ) → g ≢ h → the_board.count at.flat g ≡ the_board.count b.at.flat g) → s.count ≡ the_board.count at.flat g
    by_count g s (inl (same, is_seat)) others = ap (λ (z : Seat). z.count) (sym is_seat) ∙ seat.count ∙ ap (the_board.count at.flat) (sym same)
    by_count g s (inr (other, at_g)) others = st.counts g s at_g ∙ sym (others g other)

    by_poll : (g : ℕ) (s : Seat) → ((g ≡ h) × (after ≡ s)) ⊎ ((g ≢ h) × (slice_get c.seats g ≡ Some s)) → IsLatestPoll s.lane.entries s.polled s.count
    by_poll g s (inl (same, is_seat)) = subst (λ (z : Seat). IsLatestPoll z.lane.entries z.polled z.count) is_seat seat.polls
    by_poll g s (inr (other, at_g)) = st.polls g s at_g

pub poll_is : (count ord time bits : ℕ) → IsOrdinal (Poll count ord time bits) ord
poll_is count ord time bits = record { act = λ h. acts.Poll h time; acts = λ s h. refl; no_page = refl; cursor = λ c h. (refl, refl); bytes = omega arith }

-- a Poll at the hart's count is its latest
poll_more : (s : List Entry) (count ord time bits n : ℕ) → has_poll (s ++ Poll count ord time bits ∷ []) n ≡ (has_poll s n || (count == n))
poll_more [] count ord time bits n = or_false (count == n) where
  or_false : (t : Bool) → (t || false) ≡ t
  or_false true = refl
  or_false false = refl
poll_more (x ∷ s) count ord time bits n = ap (λ z. (is_poll x && (count_of x == n)) || z) (poll_more s count ord time bits n)
    ∙ or_assoc (is_poll x && (count_of x == n)) (has_poll s n) (count == n) where
      or_assoc : (a b c : Bool) → (a || (b || c)) ≡ ((a || b) || c)
      or_assoc true b c = refl
      or_assoc false b c = refl

none_later : (s : List Entry) (polled : Option ℕ) (count n : ℕ) → IsLatestPoll s polled count → count < n → has_poll s n ≡ false
none_later s None count n latest l = latest n
none_later s (Some last) count n latest l = latest.2 n (let z = latest.1 in omega (arith, z, l))

pub poll_latest : (s : List Entry) (polled : Option ℕ) (count ord time bits : ℕ) → IsLatestPoll s polled count
    → IsLatestPoll (s ++ Poll count ord time bits ∷ []) (Some count) count
poll_latest s polled count ord time bits latest = (
  poll_more s count ord time bits count ∙ ap (λ t. has_poll s count || t) (eq-eqb count count refl) ∙ or_true (has_poll s count),
  omega arith,
  λ n l. poll_more s count ord time bits n ∙ ap₂ (λ a b. a || b) (none_later s polled count n latest l) (ne_eqb count n (λ e. absurd (omega (arith, l, e)))),
)
  where
    or_true : (t : Bool) → (t || true) ≡ true
    or_true true = refl
    or_true false = refl
