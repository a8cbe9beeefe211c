-- What is set between turns: the favoured hart, the cause, and room.
use Rattle.std.proofs.Common.{◌≡◌, ℕ, zero, suc, ◌<◌, Bool, List, [], ◌∷◌, map, length, Option, Some, slice_get, slice_set, slice_index_or, unwrap_or, inl}
use Rattle.std.proofs.Common.{inr, ◌+◌, ◌≤◌, Ok, Err, is_some, None, false, ◌==◌, ◌&&◌, ◌||◌, true≢false, if◌then◌else◌, refl, sym, ap, ap₂, ◌∙◌, subst}
use Rattle.std.proofs.Common.{arith}
use Rattle.std.specs.Prelude.{All, IsTrue}
use Rattle.std.specs.List.{list_all}
use Rattle.std.specs.Prelude.{Result, OnErr}
use Rattle.std.proofs.lemmas.Bool.{cases_eq}
use Rattle.std.proofs.lemmas.List.{length-map}
use Rattle.std.proofs.lemmas.Option.{same_Some, slice_get-get_or}
use Rattle.shared_types.proofs.Lists.{get_map, map_at, set_here, set_there}
use Rattle.rv_words.specs.declared.shared.Cause.{Cause}
use Rattle.rv_words.specs.declared.shared.Cause.TheVariants.{Cut}
use Rattle.flat_machine.specs.State.{FlatState}
use Rattle.turn_model.specs.Board.{Board}
use Rattle.crew_core.specs.declared.seat.Seat.{Seat}
use Rattle.crew_core.specs.declared.crew.Crew.{Crew}
use Rattle.crew_parts.specs.Boards.{the_board}
use Rattle.elf_image.specs.Image.{Image}
use Rattle.log_entry.specs.Waits.{WaitList}
use Rattle.replay_model.specs.State.{Replay, IsCrewState}
use Rattle.crew_parts.specs.Boards.{Plain, World, IsReached, board_of, cut_in, is_over_in, spent, state_of}
use Rattle.run_model.specs.Numbers.{AreNumbered}
use Rattle.crew_parts.proofs.Laws.{boards_set}
use Rattle.crew_core.specs.Kept.{IsReady, IsRoomier, IsSpare, IsSeenAs, plain_of}
use Rattle.crew_core.specs.Lanes.{Lane, Rows}
use Rattle.crew_core.specs.Seats.{is_at, no_seat, seat_of, without_room, HasRoomFor}
use Rattle.crew_core.specs.Orders.{told_of}
use Rattle.crew_core.proofs.Stepping.{stands_closed, stands_favoured}
use Rattle.crew_core.specs.Standing.{Stands, IsLatestPoll, IsNear, terms_of}

-- what doesn't look at the room
fused : {X : Type 0} (f : Seat → X) → ((s : Seat) → f (without_room s) ≡ f s) → (seats : List Seat) → map f (map without_room seats) ≡ map f seats
fused f same [] = refl
fused f same (s ∷ seats) = ap₂ (λ x xs. x ∷ xs) (same s) (fused f same seats)

pub seen_alike : {X : Type 0} (f : Seat → X) → ((s : Seat) → f (without_room s) ≡ f s) → (old new : List Seat)
    → map without_room new ≡ map without_room old → map f new ≡ map f old
seen_alike f same old new alike = sym (fused f same new) ∙ ap (map f) alike ∙ fused f same old

sits_alike : (P : Seat → Type 0) (old new : List Seat) (g : ℕ) (s : Seat) → map without_room new ≡ map without_room old → slice_get new g ≡ Some s
    → ((x : Seat) → slice_get old g ≡ Some x → P (without_room x)) → P (without_room s)
sits_alike P old new g s alike at all =
    let was = map_at without_room old g (without_room s) (sym (ap (λ xs. slice_get xs g) alike) ∙ get_map without_room new g s at) in
    subst P was.2 (all was.0 was.1)

pub roomier_stands : (c d : Crew) (b : Board FlatState) → Stands c b → IsRoomier c d → Stands d b
roomier_stands c d b st more = subst (λ (z : Crew). Stands z b) (sym more.same) (record {
  unit_is = st.unit_is;
  some = st.some;
  backs = record { unit_is = st.backs.unit_is; number = st.backs.number; memory = st.backs.memory; devices_are = st.backs.devices_are; bytes = st.backs.bytes };
  holders = st.holders;
  numbers = st.numbers;
  wants = st.wants;
  waits = st.waits;
  numbered = st.numbered;
  ordinal = st.ordinal;
  streams = seen_alike (λ (s : Seat). s.lane.entries) (λ s. refl) c.seats d.seats more.seats ∙ st.streams;
  counts = λ g s at. sits_alike (λ z. z.count ≡ the_board.count b.at.flat g) c.seats d.seats g s more.seats at (st.counts g);
  polls = λ g s at. sits_alike (λ z. IsLatestPoll z.lane.entries z.polled z.count) c.seats d.seats g s more.seats at (st.polls g);
  orders = seen_alike (λ (s : Seat). told_of s.order) (λ s. refl) c.seats d.seats more.seats ∙ st.orders;
  near = λ g s at. sits_alike (IsNear c.limit) c.seats d.seats g s more.seats at (st.near g);
  size = st.size;
  favoured = st.favoured;
  closed = st.closed;
  harts = sym (length-map d.seats without_room) ∙ ap (λ (xs : List Seat). length xs) more.seats ∙ length-map c.seats without_room ∙ st.harts;
  board = st.board;
  crew = st.crew;
  table = st.table;
  numbers_size = st.numbers_size;
  yields_size = st.yields_size;
  wants_inside = st.wants_inside;
  wants_size = st.wants_size;
  ends = st.ends;
  device_harts = st.device_harts;
  few = st.few;
  favours = st.favours;
  limit = st.limit;
  most_bytes = st.most_bytes;
  numbers_fit = st.numbers_fit;
  ordinal_fits = st.ordinal_fits;
})

-- the favoured hart, the cause and the room tell nothing of the state
pub same_state : (p : Plain) (favoured : ℕ) (closed : Option Cause) (abandoned prepared : Bool)
    → state_of (record p { favoured = favoured; closed = closed; abandoned = abandoned; prepared = prepared }) ≡ state_of p
unfolding state_of
same_state p favoured closed abandoned prepared = refl

-- a crew in which only these are set, and room was added, stands for the board in which they are set
pub set_keeps : (c d : Crew) (spare more : List WaitList) (journal turns further_journal further_turns : Rows ℕ) (p q : Plain)
    → IsSeenAs c spare journal turns p → d.harts ≡ p.harts → terms_of d ≡ terms_of c
    → q ≡ record p { favoured = d.favoured; closed = d.closed; abandoned = q.abandoned; prepared = q.prepared }
    → IsReached (record p { favoured = d.favoured; closed = d.closed; abandoned = q.abandoned; prepared = q.prepared })
    → Stands d (record (board_of p spent) { favoured = d.favoured; closed = d.closed }) → All IsSpare more
    → (IsTrue q.prepared → IsReady d more further_journal further_turns) → IsSeenAs d more further_journal further_turns q
set_keeps c d spare more journal turns further_journal further_turns p q k harts terms is reached stands empty ready =
    let at = same_state p d.favoured d.closed q.abandoned q.prepared in
    subst (IsSeenAs d more further_journal further_turns) (sym is) (record {
      terms = terms ∙ k.terms;
      most = k.most;
      stands = subst (λ (z : Replay FlatState). Stands d (record (board_of p spent) { at = z; favoured = d.favoured; closed = d.closed })) (sym at) stands;
      board = record {
        whole = k.board.whole;
        some = k.board.some;
        few = k.board.few;
        favours = (let l = stands.favours in omega (arith, l, harts));
        streams = k.board.streams;
        wants = k.board.wants;
        orders = k.board.orders;
        counts = k.board.counts ∙ ap (λ (z : Replay FlatState). z.flat.counts) (sym at);
        ahead = k.board.ahead;
        crew = subst (IsCrewState the_board) (sym at) k.board.crew;
        numbered = subst (λ (z : Replay FlatState). AreNumbered z.flat) (sym at) k.board.numbered;
        reached = reached;
      };
      empty = empty;
      ready = ready;
    })

-- nothing but room: the same plain data, but that there may be room for a turn
pub shows_alike : (c d : Crew) (journal turns : List (ℕ × ℕ)) (image : Image) (first now : World) (abandoned prepared : Bool) → IsRoomier c d
    → plain_of d journal turns image first now abandoned prepared ≡ plain_of c journal turns image first now abandoned prepared
shows_alike c d journal turns image first now abandoned prepared more =
    ap (λ (z : Crew). plain_of z journal turns image first now abandoned prepared) more.same
    ∙ ap₂ (λ streams counts. record (plain_of c journal turns image first now abandoned prepared) {
      streams = streams;
      counts = counts;
      orders = map (λ (s : Seat). told_of s.order) d.seats;
    })
    (seen_alike (λ (s : Seat). s.lane.entries) (λ s. refl) c.seats d.seats more.seats)
    (seen_alike (λ (s : Seat). s.count) (λ s. refl) c.seats d.seats more.seats)
    ∙ ap (λ orders. record (plain_of c journal turns image first now abandoned prepared) { orders = orders })
    (seen_alike (λ (s : Seat). told_of s.order) (λ s. refl) c.seats d.seats more.seats)

-- room for a turn speaks of seats and devices alone
ready_set : (c : Crew) (favoured : ℕ) (closed : Option Cause) (spare : List WaitList) (journal turns : Rows ℕ) → IsReady c spare journal turns
    → IsReady (record c { favoured = favoured; closed = closed }) spare journal turns
ready_set c favoured closed spare journal turns r = record {
  lanes = r.lanes;
  waits = r.waits;
  bytes = r.bytes;
  journal_room = r.journal_room;
  turns_room = r.turns_room;
}

pub favour_keeps : (c : Crew) (spare : List WaitList) (journal turns : Rows ℕ) (image : Image) (first now : World) (abandoned prepared : Bool) (r : ℕ)
    → IsSeenAs c spare journal turns (plain_of c journal.rows turns.rows image first now abandoned prepared) → r < c.harts
    → IsSeenAs (record c { favoured = r }) spare journal turns (plain_of (record c { favoured = r }) journal.rows turns.rows image first now abandoned prepared)
favour_keeps c spare journal turns image first now abandoned prepared r k l =
    let p = plain_of c journal.rows turns.rows image first now abandoned prepared in
    set_keeps c (record c { favoured = r }) spare spare journal turns journal turns p (record p { favoured = r }) k refl refl refl
    ((boards_set p k.board.reached).0 r (let z = k.board.streams in omega (arith, z, l))) (stands_favoured c (board_of p spent) r l k.stands) k.empty
    (λ t. ready_set c r c.closed spare journal turns (k.ready t))

reached_aside : (p : Plain) (abandoned prepared : Bool) → IsReached p → IsReached (record p { abandoned = abandoned; prepared = prepared })
unfolding state_of
reached_aside p abandoned prepared reached = reached

pub close_keeps : (c d : Crew) (cause : Cause) (spare : List WaitList) (journal turns : Rows ℕ) (image : Image) (first now : World)
    (abandoned prepared further : Bool) → IsSeenAs c spare journal turns (plain_of c journal.rows turns.rows image first now abandoned prepared)
    → d ≡ record c { closed = Some (unwrap_or c.closed cause) }
    → IsSeenAs d spare journal turns (plain_of d journal.rows turns.rows image first now further prepared)
close_keeps c d cause spare journal turns image first now abandoned prepared further k is =
    let p = plain_of c journal.rows turns.rows image first now abandoned prepared in
    let closed = Some (unwrap_or c.closed cause) in
    subst (λ (z : Crew). IsSeenAs z spare journal turns (plain_of z journal.rows turns.rows image first now further prepared)) (sym is)
    (set_keeps c (record c { closed = closed }) spare spare journal turns journal turns p (record p { closed = closed; abandoned = further }) k refl refl refl
    (reached_aside (record p { closed = closed }) further prepared ((boards_set p k.board.reached).1 cause)) (stands_closed c (board_of p spent) cause k.stands)
    k.empty (λ t. ready_set c c.favoured closed spare journal turns (k.ready t)))

pub roomier_keeps : (c d : Crew) (spare more : List WaitList) (journal turns further_journal further_turns : Rows ℕ) (image : Image) (first now : World)
    (abandoned prepared ready : Bool) → IsSeenAs c spare journal turns (plain_of c journal.rows turns.rows image first now abandoned prepared) → IsRoomier c d
    → further_journal.rows ≡ journal.rows → further_turns.rows ≡ turns.rows → All IsSpare more
    → (IsTrue ready → IsReady d more further_journal further_turns)
    → IsSeenAs d more further_journal further_turns (plain_of d further_journal.rows further_turns.rows image first now abandoned ready)
roomier_keeps c d spare more journal turns further_journal further_turns image first now abandoned prepared ready k room same_journal same_turns empty
    is_ready =
    let p = plain_of c journal.rows turns.rows image first now abandoned prepared in
    let favoured : d.favoured ≡ c.favoured = ap (λ (z : Crew). z.favoured) room.same in
    let closed : d.closed ≡ c.closed = ap (λ (z : Crew). z.closed) room.same in
    set_keeps c d spare more journal turns further_journal further_turns p
    (plain_of d further_journal.rows further_turns.rows image first now abandoned ready) k (ap (λ (z : Crew). z.harts) room.same) (ap terms_of room.same)
    (ap₂ (λ x y. plain_of d x y image first now abandoned ready) same_journal same_turns
    ∙ shows_alike c d journal.rows turns.rows image first now abandoned ready room
    ∙ ap₂ (λ f cl. record p { favoured = f; closed = cl; prepared = ready }) (sym favoured) (sym closed))
    (subst (λ f. IsReached (record p { favoured = f; closed = d.closed; prepared = ready })) (sym favoured)
    (subst (λ cl. IsReached (record p { closed = cl; prepared = ready })) (sym closed) (reached_aside p abandoned ready k.board.reached)))
    (subst (λ f. Stands d (record (board_of p spent) { favoured = f; closed = d.closed })) (sym favoured)
    (subst (λ cl. Stands d (record (board_of p spent) { closed = cl })) (sym closed) (roomier_stands c d (board_of p spent) k.stands room))) empty is_ready

-- so the plain data are as before but for that
pub roomier_shows : (c d : Crew) (journal turns further_journal further_turns : List (ℕ × ℕ)) (image : Image) (first now : World) (abandoned prepared : Bool)
    → IsRoomier c d → further_journal ≡ journal → further_turns ≡ turns
    → plain_of d further_journal further_turns image first now abandoned prepared ≡ plain_of c journal turns image first now abandoned prepared
roomier_shows c d journal turns further_journal further_turns image first now abandoned prepared room same_journal same_turns =
    ap₂ (λ x y. plain_of d x y image first now abandoned prepared) same_journal same_turns
    ∙ shows_alike c d journal turns image first now abandoned prepared room

-- one seat of a list with other room
pub set_alike : (xs : List Seat) (i : ℕ) (s y : Seat) → slice_get xs i ≡ Some s → without_room y ≡ without_room s
    → map without_room (slice_set xs i y) ≡ map without_room xs
set_alike [] i s y at same = refl
set_alike (x ∷ xs) zero s y at same = ap (λ z. z ∷ map without_room xs) (same ∙ ap without_room (sym (same_Some _ _ at)))
set_alike (x ∷ xs) (suc i) s y at same = ap (λ zs. without_room x ∷ zs) (set_alike xs i s y at same)

-- all turns committed so many moves, by the seats and by the plain data
pub all_counts : (limit : ℕ) (seats : List Seat) → list_all (is_at limit) seats ≡ list_all (λ n. n == limit) (map (λ (s : Seat). s.count) seats)
all_counts limit [] = refl
all_counts limit (s ∷ seats) = ap (λ b. (s.count == limit) && b) (all_counts limit seats)

pub cut_is : (p : Plain) → is_over_in p ≡ false → record p { closed = Some (unwrap_or p.closed Cut) } ≡ cut_in p
cut_is p running =
    ap (λ (o : Option Cause). record p { closed = o }) (by p.closed (list_all (λ n. n == p.limit) p.counts) running)
    ∙ sym (ap (λ b. if b then p else record p { closed = Some Cut }) running) where
      by : (o : Option Cause) (b : Bool) → (is_some o || b) ≡ false → ◌≡◌ {A = Option Cause} (Some (unwrap_or o Cut)) (Some Cut)
      by None b running = refl
      by (Some cause) b running = absurd (true≢false running)

pub roomier_at : (seats : List Seat) (i : ℕ) (d : Seat) (lane : Lane) → i < length seats → lane.entries ≡ (slice_index_or seats i d).lane.entries
    → map without_room (slice_set seats i (record (slice_index_or seats i d) { lane = lane })) ≡ map without_room seats
roomier_at seats i d lane l same =
    set_alike seats i (slice_index_or seats i d) (record (slice_index_or seats i d) { lane = lane }) (slice_get-get_or seats i d l)
    (ap (λ es. record (slice_index_or seats i d) { lane = record { entries = es; room = 0 } }) same)

pub room_at : (seats : List Seat) (i more : ℕ) (y : Seat) → i < length seats → length y.lane.entries + more ≤ y.lane.room
    → ((h : ℕ) → h < i → HasRoomFor more seats h) → (h : ℕ) → h < i + 1 → HasRoomFor more (slice_set seats i y) h
room_at seats i more y l room rooms h less = elim (cases_eq h i) [
  | inl same ↦
      subst (λ (s : Seat). length s.lane.entries + more ≤ s.lane.room)
      (sym (ap (λ k. seat_of (slice_set seats i y) k) same ∙ ap (λ o. unwrap_or o no_seat) (set_here seats i y l))) room
  | inr other ↦
      subst (λ (s : Seat). length s.lane.entries + more ≤ s.lane.room) (sym (ap (λ o. unwrap_or o no_seat) (set_there seats i h y other)))
      (rooms h (omega (arith, less, other)))
]

pub on_err : {T E : Type 0} (r : Result T E) (P : Type 0) → P → OnErr r P
on_err (Ok x) P p = tt
on_err (Err e) P p = p
