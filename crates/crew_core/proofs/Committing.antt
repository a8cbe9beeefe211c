-- The moves of a hart since its last turn are committed.
use Rattle.std.proofs.Common.{◌≡◌, ◌≢◌, ◌⊎◌, inl, inr, ℕ, zero, suc, ◌+◌, ◌%◌, ◌*◌, ◌<◌, ◌≤◌, ◌==◌, ◌&&◌, ◌||◌, nat_lt, Bool, true, false, List, []}
use Rattle.std.proofs.Common.{◌∷◌, length, Option, Some, None, slice_get, slice_index, slice_set, unwrap_or, refl, sym, ap, ap₂, ◌∙◌, subst, arith}
use Rattle.std.proofs.Common.{if◌then◌else◌}
use Rattle.std.specs.Option.{option_map, option_and_then}
use Rattle.std.proofs.lemmas.List.{length-set}
use Rattle.std.proofs.lemmas.Bool.{cases_eq}
use Rattle.std.proofs.lemmas.Option.{none-some}
use Rattle.rv_words.specs.declared.shared.Mode.{Mode}
use Rattle.log_entry.specs.declared.log.Entry.{Entry}
use Rattle.flat_machine.specs.State.{FlatState}
use Rattle.flat_machine.specs.declared.results.Step.{Step}
use Rattle.crew_parts.specs.Boards.{the_board}
use Rattle.order_rules.specs.Holders.{Holders, IsCrew}
use Rattle.replay_model.specs.Items.{Move, Verdict, goes, told_of}
use Rattle.replay_model.specs.State.{Replay}
use Rattle.run_model.specs.Run.{Run}
use Rattle.run_model.specs.Agreement.{Agrees}
use Rattle.run_model.specs.Legs.{Runs, DifferFor}
use Rattle.shared_types.proofs.Lists.{set_here, set_there}
use Rattle.board_backing.specs.Backing.{Backs}
use Rattle.board_backing.proofs.Begins.{leg_backs}
use Rattle.crew_recording.proofs.Items.{by_item, moves}
use Rattle.crew_parts.specs.Boards.{the_machine}
use Rattle.turn_model.specs.Board.{Board, Terms, is_at_limit}
use Rattle.turn_model.specs.Steps.{runs, passes, passes_favour, with_want}
use Rattle.turn_model.specs.Laws.{IsPagedBoard}
use Rattle.crew_core.proofs.Machine.{faithful}
use Rattle.crew_core.specs.declared.crew.Crew.{Crew}
use Rattle.crew_core.specs.declared.seat.Seat.{Seat}
use Rattle.crew_core.specs.Seats.{seat_of, counted_at}
use Rattle.order_rules.specs.Cursor.{Cursor}
use Rattle.crew_core.specs.Standing.{WaitsFollow}
use Rattle.crew_core.specs.Standing.{Stands, AreNumbered, IsLatestPoll, log_so_far, terms_of}
use Rattle.crew_core.specs.Does.{Commits, favour_after}
use Rattle.crew_parts.specs.Parts.{IsLed}
use Rattle.crew_core.proofs.Sizes.{size_alike}
use Rattle.crew_core.proofs.Seated.{lanes, lanes_size, seat_there, seated, orders_kept, near_set, near_later}
use Rattle.crew_core.proofs.Yielding.{count_is}

runs_are : (terms : Terms) (h n : ℕ) (s t : Replay FlatState) → Runs the_board h n s t → runs the_machine terms h n s ≡ Some t
runs_are terms h zero s t is = ap Some is
runs_are terms h (suc n) s t is =
    ap (λ (v : Verdict). option_and_then (λ (m : Replay FlatState × Option (List Step)). runs the_machine terms h n m.0) (goes the_board s h Move v)) is.0
    ∙ ap (λ (o : Option (Replay FlatState)). option_and_then (λ (m : Replay FlatState × Option (List Step)). runs the_machine terms h n m.0)
    (option_map (λ (x : Replay FlatState). (x, told_of the_board s h Move x)) o)) is.1.1
    ∙ runs_are terms h n is.1.0 t is.1.2

-- moves stay on the board, and each counts
pub runs_count : (harts pages h n : ℕ) (s t : Replay FlatState) → Runs the_board h n s t → IsPagedBoard harts pages s.flat → IsPagedBoard harts pages t.flat
    × (the_board.count t.flat h ≡ the_board.count s.flat h + n)
runs_count harts pages h zero s t is good = (
  subst (λ (z : Replay FlatState). IsPagedBoard harts pages z.flat) is good,
  (let z = ap (λ (x : Replay FlatState). the_board.count x.flat h) is in omega (arith, z)),
)
runs_count harts pages h (suc n) s t is good =
    let steady = (faithful harts pages).steady in
    let m = is.1.0 in
    let on = by_item the_board harts (IsPagedBoard harts pages) steady s m h Move good is.1.1 in
    let one = moves the_board harts (IsPagedBoard harts pages) steady s m h good is.1.1 in
    let rest = runs_count harts pages h n m t is.1.2 on.good in
    (rest.0, let z = rest.1 in omega (arith, z, one))

same_count : (xs ys : List ℕ) (g : ℕ) → slice_get ys g ≡ slice_get xs g → slice_index ys g ≡ slice_index xs g
same_count xs ys g e = index_of ys g ∙ ap (λ o. unwrap_or o 0) e ∙ sym (index_of xs g) where
  index_of : (zs : List ℕ) (i : ℕ) → slice_index zs i ≡ unwrap_or (slice_get zs i) 0
  index_of [] i = refl
  index_of (z ∷ zs) zero = refl
  index_of (z ∷ zs) (suc i) = index_of zs i

lanes_same : (seats : List Seat) (h count : ℕ) → lanes (counted_at h count seats) ≡ lanes seats
lanes_same [] h count = refl
lanes_same (s ∷ seats) zero count = refl
lanes_same (s ∷ seats) (suc h) count = ap (λ zs. s.lane.entries ∷ zs) (lanes_same seats h count)

pub later_poll : (entries : List Entry) (polled : Option ℕ) (m n : ℕ) → m ≤ n → IsLatestPoll entries polled m → IsLatestPoll entries polled n
later_poll entries None m n l latest = latest
later_poll entries (Some last) m n l latest = (latest.0, (let z = latest.1 in omega (arith, z, l)), latest.2)

-- nothing but the favoured hart is another
passing : (t : Bool) (h : ℕ) (b : Board FlatState) → ((if t then passes_favour h b else b)
    ≡ record b { favoured = (if t then passes_favour h b else b).favoured })
    × ((if t then passes_favour h b else b) ≡ record b { favoured = if t then (h + 1) % length b.streams else b.favoured })
passing true h b = (refl, refl)
passing false h b = (refl, refl)

less_by : (a b n : ℕ) → b ≡ a + n → nat_lt a b ≡ nat_lt 0 n
less_by a b n e = grind arith

pub committed : (c new : Crew) (r : Run) (h n : ℕ) (b : Board FlatState) → Stands c b → IsLed r h n b.at → h < c.harts → r.count ≤ c.limit
    → favour_after c h r.count < c.harts
    → new ≡ record c {
      seats = counted_at h r.count c.seats;
      directory = record c.directory { wants = slice_set c.directory.wants h None };
      favoured =
          favour_after c h r.count;
    }
    → Commits c new r h n b
committed c new r h n b st led inside within favoured_inside is =
    let s = led.at in
    let seats_inside : h < length c.seats = omega (arith, inside, st.harts) in
    let counted = runs_count c.harts c.pages h n b.at s led.runs st.board in
    let now : the_board.count s.flat h ≡ r.count = count_is r h (record b { at = s }) led.agrees in
    let before : (seat_of c.seats h).count ≡ the_board.count b.at.flat h = st.counts h (seat_of c.seats h) (seat_there c.seats h seats_inside) in
    let streams_size : length b.streams ≡ c.harts = ap (λ (xs : List (List Entry)). length xs) (sym st.streams) ∙ lanes_size c.seats ∙ st.harts in
    let d : Board FlatState = with_want h None (passes the_machine (terms_of c) h n (record b { at = s })) in
    let passed = passing ((h == b.favoured) && (nat_lt 0 n || is_at_limit the_machine (terms_of c) (record b { at = s }) h)) h (record b { at = s }) in
    let at_is : d.at ≡ s = ap (λ (z : Board FlatState). z.at) passed.0 in
    let streams : d.streams ≡ b.streams = ap (λ (z : Board FlatState). z.streams) passed.0 in
    let numbers : d.at.cursor.numbers ≡ b.at.cursor.numbers = ap (λ (z : Replay FlatState). z.cursor.numbers) at_is
    ∙ ap (λ (z : Cursor). z.numbers) led.differ.cursor in
    let favoured : favour_after c h r.count ≡ d.favoured = favours (sym st.favoured) streams_size now (let z = counted.1 in omega (arith, z, before, now)) in
    record {
      to = d;
      made = ap (option_map (λ (s : Replay FlatState). with_want h None (passes the_machine (terms_of c) h n (record b { at = s }))))
          (runs_are (terms_of c) h n b.at s led.runs);
      supply = ap (λ (z : Board FlatState). z.supply) passed.0;
      agrees = subst (λ z. Agrees r h z) (sym at_is) led.agrees;
      stands = subst (λ z. Stands z d) (sym is) (record {
        unit_is = st.unit_is;
        some = st.some;
        backs = subst (λ z. Backs c.backing z) (sym at_is)
            (leg_backs c.backing h b.at s st.backs (subst (λ u. DifferFor u h b.at s) (sym st.unit_is) led.differ) led.memory);
        holders = st.holders ∙ sym led.differ.holders ∙ ap (λ (z : Replay FlatState). z.holders) (sym at_is);
        numbers = st.numbers ∙ sym numbers;
        wants = ap (λ ws. slice_set ws h None) st.wants ∙ sym (ap (λ (z : Board FlatState). slice_set z.wants h None) passed.0);
        waits = subst (λ ss. WaitsFollow (log_so_far (terms_of c) ss) c.directory.yields d.at.cursor.numbers) (sym streams)
            (subst (WaitsFollow (log_so_far (terms_of c) b.streams) c.directory.yields) (sym numbers) st.waits);
        numbered = subst (λ ss. AreNumbered ss d.at.cursor.numbers) (sym streams) (subst (AreNumbered b.streams) (sym numbers) st.numbered);
        ordinal = st.ordinal ∙ ap (λ (z : Cursor). z.ordinal) (sym led.differ.cursor) ∙ ap (λ (z : Replay FlatState). z.cursor.ordinal) (sym at_is);
        streams = lanes_same c.seats h r.count ∙ st.streams ∙ sym streams;
        counts = λ g x sits. by_count g x (seated c.seats h g (record (seat_of c.seats h) { count = r.count }) x seats_inside sits) now
            ∙ ap (λ (z : Replay FlatState). the_board.count z.flat g) (sym at_is);
        polls = λ g x sits. by_poll g x (seated c.seats h g (record (seat_of c.seats h) { count = r.count }) x seats_inside sits)
            (seat_there c.seats h seats_inside) (let z = counted.1 in omega (arith, z, before, now));
        orders = orders_kept c.seats h (record (seat_of c.seats h) { count = r.count }) refl ∙ st.orders
            ∙ sym (ap (λ (z : Board FlatState). z.orders) passed.0);
        near = near_set c.limit c.seats h (record (seat_of c.seats h) { count = r.count }) seats_inside
            (near_later c.limit r.count (seat_of c.seats h) (let z = counted.1 in omega (arith, z, before, now)) within
            (st.near h (seat_of c.seats h) (seat_there c.seats h seats_inside))) st.near;
        size = st.size ∙ sym (size_alike (terms_of c) b d streams);
        favoured = favoured;
        closed = st.closed ∙ sym (ap (λ (z : Board FlatState). z.closed) passed.0);
        harts = length-set c.seats h _ ∙ st.harts;
        board = subst (λ (z : Replay FlatState). IsPagedBoard c.harts c.pages z.flat) (sym at_is) counted.0;
        crew = subst (λ (z : Replay FlatState). IsCrew z.holders) (sym at_is) (subst IsCrew (sym led.differ.holders) st.crew);
        table = ap (λ (z : Replay FlatState). length z.holders) at_is ∙ ap (λ (xs : Holders). length xs) led.differ.holders ∙ st.table;
        numbers_size = st.numbers_size;
        yields_size = st.yields_size;
        wants_inside = λ g m w. by_want g m w (cases_eq g h);
        limit = st.limit;
        wants_size = length-set c.directory.wants h None ∙ st.wants_size;
        ends = st.ends;
        device_harts = st.device_harts;
        few = st.few;
        favours = favoured_inside;
        most_bytes = st.most_bytes;
        numbers_fit = λ p. subst (λ ns. 16 * slice_index ns p ≤ c.size) (sym numbers) (st.numbers_fit p);
        ordinal_fits = (let z = st.ordinal_fits in let w = ap (λ (x : Cursor). x.ordinal) led.differ.cursor in let v = ap
            (λ (z : Replay FlatState). z.cursor.ordinal) at_is in omega (arith, z, w, v));
      });
    }
  where
    by_count : (g : ℕ) (x : Seat) → ((g ≡ h) × (record (seat_of c.seats h) { count = r.count } ≡ x)) ⊎ ((g ≢ h) × (slice_get c.seats g ≡ Some x))
        → the_board.count led.at.flat h ≡ r.count → x.count ≡ the_board.count led.at.flat g
    by_count g x (inl (same, is_seat)) now = ap (λ (z : Seat). z.count) (sym is_seat) ∙ sym now ∙ ap (the_board.count led.at.flat) (sym same)
    by_count g x (inr (other, at_g)) now = st.counts g x at_g ∙ sym (same_count b.at.flat.counts led.at.flat.counts g (led.differ.counts g other))

    by_poll : (g : ℕ) (x : Seat) → ((g ≡ h) × (record (seat_of c.seats h) { count = r.count } ≡ x)) ⊎ ((g ≢ h) × (slice_get c.seats g ≡ Some x))
        → slice_get c.seats h ≡ Some (seat_of c.seats h) → (seat_of c.seats h).count ≤ r.count → IsLatestPoll x.lane.entries x.polled x.count
    by_poll g x (inl (same, is_seat)) sits later =
        subst (λ (z : Seat). IsLatestPoll z.lane.entries z.polled z.count) is_seat
        (later_poll (seat_of c.seats h).lane.entries (seat_of c.seats h).polled (seat_of c.seats h).count r.count later
        (st.polls h (seat_of c.seats h) sits))
    by_poll g x (inr (other, at_g)) sits later = st.polls g x at_g

    by_want : (g : ℕ) (m : ℕ × Mode) → unwrap_or (slice_get (slice_set c.directory.wants h None) g) None ≡ Some m → (g ≡ h) ⊎ (g ≢ h) → m.0 < c.pages
    by_want g m w (inl same) =
        let l : h < length c.directory.wants = omega (arith, inside, st.wants_size) in
        absurd (none-some m (sym (ap (λ o. unwrap_or o None) (set_here c.directory.wants h None l))
        ∙ subst (λ z. unwrap_or (slice_get (slice_set c.directory.wants h None) z) None ≡ Some m) same w))
    by_want g m w (inr other) = st.wants_inside g m (sym (ap (λ o. unwrap_or o None) (set_there c.directory.wants h g None other)) ∙ w)

    favours : b.favoured ≡ c.favoured → length b.streams ≡ c.harts → the_board.count led.at.flat h ≡ r.count → r.count ≡ (seat_of c.seats h).count + n
        → favour_after c h r.count ≡ (with_want h None (passes the_machine (terms_of c) h n (record b { at = led.at }))).favoured
    favours same size now moved =
        ap₂ (λ f k. if (h == f) && (nat_lt (seat_of c.seats h).count r.count || (k == c.limit)) then (h + 1) % c.harts else f) (sym same) (sym now)
        ∙ ap₂ (λ m t. if (h == b.favoured) && (t || (the_board.count led.at.flat h == c.limit)) then (h + 1) % m else b.favoured) (sym size)
        (less_by (seat_of c.seats h).count r.count n moved)
        ∙ sym (ap (λ (z : Board FlatState). z.favoured) (passing
        ((h == b.favoured) && (nat_lt 0 n || is_at_limit the_machine (terms_of c) (record b { at = led.at }) h)) h (record b { at = led.at })).1)

pub favour_inside : (c : Crew) (b : Board FlatState) (h count : ℕ) → Stands c b → favour_after c h count < c.harts
favour_inside c b h count st = by ((h == c.favoured) && (nat_lt (seat_of c.seats h).count count || (count == c.limit))) where
  by : (t : Bool) → (if t then (h + 1) % c.harts else c.favoured) < c.harts
  by true = let z = st.favours in omega (arith, z)
  by false = st.favours
