-- A whole turn of the crew is the model's.
use Rattle.std.proofs.Common.{◌≡◌, ◌≢◌, ◌⊎◌, inl, inr, ℕ, zero, suc, ◌+◌, ◌-◌, ◌*◌, ◌/◌, ◌<◌, ◌≤◌, ◌==◌, ◌&&◌, ◌||◌, not, min, nat_lt, ◌∷◌, [], Bool, true}
use Rattle.std.proofs.Common.{false, List, length, Option, Some, None, slice_get, slice_set, unwrap_or, is_some}
use Rattle.std.proofs.Common.{refl, sym, ap, ap₂, ◌∙◌, subst, arith, if◌then◌else◌}
use Rattle.std.specs.Option.{option_and_then}
use Rattle.std.proofs.lemmas.Bool.Decides.{eqb_tells}
use Rattle.std.proofs.lemmas.List.{length-set}
use Rattle.rv_words.specs.Limits.{poll_distance}
use Rattle.rv_words.specs.declared.shared.Cause.{Cause}
use Rattle.flat_machine.specs.State.{FlatState}
use Rattle.replay_model.specs.State.{Replay}
use Rattle.replay_model.proofs.ActsOfOrders.{mapped}
use Rattle.run_model.specs.Run.{Run}
use Rattle.run_model.specs.Agreement.{Agrees}
use Rattle.crew_recording.specs.Recording.{stream_in}
use Rattle.turn_model.specs.Board.{Board, Supply, Terms, stream, wanted, last_order, is_at_limit}
use Rattle.turn_model.specs.Ways.{On, Ends, goes}
use Rattle.turn_model.specs.Steps.{with_want, passes_favour, passes, runs, commits, steps, next_poll}
use Rattle.turn_model.specs.Turn.{ended_by, items_made, is_noted, with_row, with_rows, with_order}
use Rattle.crew_core.specs.declared.crew.Crew.{Crew}
use Rattle.crew_core.specs.declared.seat.Seat.{Seat}
use Rattle.crew_core.specs.declared.order.Order.{Order}
use Rattle.crew_core.specs.declared.order.Order.TheVariants.{Go, Hold, Rest}
use Rattle.crew_core.specs.declared.turned.Turned.{Turned}
use Rattle.crew_parts.specs.Boards.{the_board, the_machine}
use Rattle.crew_core.specs.Orders.{told, told_of}
use Rattle.crew_core.specs.Seats.{seat_of, counted_at, told_at, reach, HasRoomFor}
use Rattle.crew_core.specs.Standing.{Stands, IsNear, IsLatestPoll, terms_of}
use Rattle.outside.specs.Seen.{SeenConsole, SeenClock}
use Rattle.crew_core.specs.Does.{Does, Commits, AccessDoes}
use Rattle.crew_parts.specs.Parts.{IsLed}
use Rattle.turn_laws.specs.Supplies.{followed_by}
use Rattle.crew_core.specs.Calls.{IsPast, poll_after, all_of}
use Rattle.crew_core.specs.Turns.{changed, noted_in, noted_by, ComesTo}
use Rattle.crew_core.proofs.Seated.{lanes, lane_of, seat_there, seated, seat_here, orders_set, order_of, near_set}
use Rattle.crew_core.proofs.Sizes.{entries_fit}
use Rattle.crew_core.proofs.Stepping.{stands_outside}
use Rattle.crew_core.proofs.Dispatching.{nothing_given}
use Rattle.crew_core.proofs.Yielding.{count_is}
use Rattle.crew_core.proofs.Committing.{runs_count}
use Rattle.crew_core.proofs.Resting.{latest_of, next_is, is_past}
use Rattle.crew_core.proofs.Rows.{KeepsRows, IsNext, Leaves, changed_rows, steps_keep}

lanes_kept : (seats : List Seat) (h : ℕ) (x : Seat) → x.lane.entries ≡ (seat_of seats h).lane.entries → lanes (slice_set seats h x) ≡ lanes seats
lanes_kept [] h x e = refl
lanes_kept (s ∷ seats) zero x e = ap (λ es. es ∷ lanes seats) e
lanes_kept (s ∷ seats) (suc h) x e = ap (λ zs. s.lane.entries ∷ zs) (lanes_kept seats h x e)

-- the crew told the hart how it goes on, and the rows are others
pub stands_told : (c : Crew) (b : Board FlatState) (h : ℕ) (order : Order) (journal turns : List (ℕ × ℕ)) → Stands c b → h < c.harts
    → IsNear c.limit (record (seat_of c.seats h) { order = Some order })
    → Stands (record c { seats = told_at h order c.seats }) (record b { orders = slice_set b.orders h (Some (told order)); journal = journal; turns = turns })
stands_told c b h order journal turns st inside near =
    let x : Seat = record (seat_of c.seats h) { order = Some order } in
    let l : h < length c.seats = omega (arith, inside, st.harts) in
    let here = seat_there c.seats h l in
    record {
      unit_is = st.unit_is;
      some = st.some;
      backs = st.backs;
      holders = st.holders;
      numbers = st.numbers;
      wants = st.wants;
      waits = st.waits;
      numbered = st.numbered;
      ordinal = st.ordinal;
      streams = lanes_kept c.seats h x refl ∙ st.streams;
      counts = λ g s sits. by_count g s (seated c.seats h g x s l sits) here;
      polls = λ g s sits. by_poll g s (seated c.seats h g x s l sits) here;
      orders = orders_set c.seats h x ∙ ap (λ os. slice_set os h (Some (told order))) st.orders;
      near = near_set c.limit c.seats h x l near st.near;
      size = st.size;
      favoured = st.favoured;
      closed = st.closed;
      harts = length-set c.seats h x ∙ st.harts;
      board = st.board;
      crew = st.crew;
      table = st.table;
      numbers_size = st.numbers_size;
      yields_size = st.yields_size;
      wants_inside = st.wants_inside;
      limit = st.limit;
      wants_size = st.wants_size;
      ends = st.ends;
      device_harts = st.device_harts;
      few = st.few;
      favours = st.favours;
      most_bytes = st.most_bytes;
      numbers_fit = st.numbers_fit;
      ordinal_fits = st.ordinal_fits;
    }
  where
    by_count : (g : ℕ) (s : Seat) → ((g ≡ h) × (record (seat_of c.seats h) { order = Some order } ≡ s)) ⊎ ((g ≢ h) × (slice_get c.seats g ≡ Some s))
        → slice_get c.seats h ≡ Some (seat_of c.seats h) → s.count ≡ the_board.count b.at.flat g
    by_count g s (inl (same, is_seat)) here =
        ap (λ (z : Seat). z.count) (sym is_seat) ∙ st.counts h (seat_of c.seats h) here ∙ ap (the_board.count b.at.flat) (sym same)
    by_count g s (inr (other, at_g)) here = st.counts g s at_g

    by_poll : (g : ℕ) (s : Seat) → ((g ≡ h) × (record (seat_of c.seats h) { order = Some order } ≡ s)) ⊎ ((g ≢ h) × (slice_get c.seats g ≡ Some s))
        → slice_get c.seats h ≡ Some (seat_of c.seats h) → IsLatestPoll s.lane.entries s.polled s.count
    by_poll g s (inl (same, is_seat)) here = subst (λ (z : Seat). IsLatestPoll z.lane.entries z.polled z.count) is_seat (st.polls h (seat_of c.seats h) here)
    by_poll g s (inr (other, at_g)) here = st.polls g s at_g

abbrev IsDueNear : ℕ → ℕ → Bool → Type 0
IsDueNear count due later = (count ≤ (if later then due + poll_distance else due)) × ((if later then due + poll_distance else due) ≤ count + poll_distance)

-- the next Poll is due within the distance of Polls, and not before
poll_near : (count : ℕ) (polled : Option ℕ) → IsPast polled count
    → (count ≤ poll_after count polled) × (poll_after count polled ≤ count + poll_distance)
poll_near count None past = (omega arith, omega arith)
poll_near count (Some last) past =
    let due = (count + (poll_distance - 1)) / poll_distance * poll_distance in
    elim (eqb_tells last due) [
      | inl (t, same) ↦ subst (IsDueNear count due) (sym t) (omega arith, omega (arith, same, past))
      | inr (t, other) ↦ subst (IsDueNear count due) (sym t) (omega arith, omega arith)
    ]

-- a hart that is told to go on is told so near, and ahead
pub near_told : (c : Crew) (r : Run) (h : ℕ) (b : Board FlatState) (order : Order) → h < c.harts → Stands c b → Agrees r h b.at
    → IsNext (terms_of c) h (told order) b
    → IsNear c.limit (record (seat_of c.seats h) { order = Some order })
    × ((seat_of c.seats h).count ≤ reach (record (seat_of c.seats h) { order = Some order }))
near_told c r h b order inside st a next = by order next where
  seat : Seat
  seat = seat_of c.seats h

  here : slice_get c.seats h ≡ Some (seat_of c.seats h)
  here = seat_there c.seats h (omega (arith, inside, st.harts))

  most : (seat_of c.seats h).count ≤ c.limit
  most = (st.near h (seat_of c.seats h) here).0

  by : (o : Order) → IsNext (terms_of c) h (told o) b → IsNear c.limit (record (seat_of c.seats h) { order = Some o })
      × ((seat_of c.seats h).count ≤ reach (record (seat_of c.seats h) { order = Some o }))
  by Rest next = ((most, most, omega arith), omega arith)
  by (Hold page other) next = ((most, most, omega arith), omega arith)
  by (Go until) next =
      let latest = latest_of c r h b inside st a in
      let count : (seat_of c.seats h).count ≡ r.count = st.counts h (seat_of c.seats h) here ∙ count_is r h b a in
      let is : until ≡ min c.limit (poll_after r.count (seat_of c.seats h).polled) =
      next ∙ ap (λ n. min c.limit (next_poll n (stream b h))) (count_is r h b a)
      ∙ ap (min c.limit) (next_is (stream b h) (seat_of c.seats h).polled r.count latest) in
      let near = poll_near r.count (seat_of c.seats h).polled (is_past (stream b h) (seat_of c.seats h).polled r.count latest) in
      let later = near.0 in
      let soon = near.1 in
      ((most, omega (arith, is), omega (arith, is, soon, count)), omega (arith, is, later, count, most))

-- moves leave the rows
commits_keep : (t : Terms) (h n : ℕ) (b d : Board FlatState) → commits the_machine t h n b ≡ Some d → KeepsRows true b d
commits_keep t h n b d is =
    let m = mapped (λ (s : Replay FlatState). with_want h None (passes the_machine t h n (record b { at = s }))) (runs the_machine t h n b.at) d is in
    let k = by m.0 ((h == b.favoured) && (nat_lt 0 n || is_at_limit the_machine t (record b { at = m.0 }) h)) in
    changed_rows b d (ap (λ (z : Board FlatState). z.journal) (sym m.2) ∙ k.journal) (ap (λ (z : Board FlatState). z.turns) (sym m.2) ∙ k.turns)
  where
    by : (s : Replay FlatState) (c : Bool) → KeepsRows true b (with_want h None (if c then passes_favour h (record b { at = s }) else record b { at = s }))
    by s true = changed_rows b _ refl refl
    by s false = changed_rows b _ refl refl

-- what is noted of a turn is what the definitions note
noted_is : (c new : Crew) (h items : ℕ) (b d : Board FlatState) → Stands c b → Stands new d → is_noted h items b d
    ≡ noted_by (noted_in c h) (noted_in new h) items
noted_is c new h items b d st sd =
    let w : wanted b h ≡ unwrap_or (slice_get c.directory.wants h) None = ap (λ ws. unwrap_or (slice_get ws h) None) (sym st.wants) in
    let x : wanted d h ≡ unwrap_or (slice_get new.directory.wants h) None = ap (λ ws. unwrap_or (slice_get ws h) None) (sym sd.wants) in
    let o : last_order b h ≡ told_of (seat_of c.seats h).order = sym (order_of c.seats h ∙ ap (λ os. unwrap_or (slice_get os h) None) st.orders) in
    let p : last_order d h ≡ told_of (seat_of new.seats h).order = sym (order_of new.seats h ∙ ap (λ os. unwrap_or (slice_get os h) None) sd.orders) in
    ap₂ (λ y z. changed items y z (last_order b h) (last_order d h) b.favoured d.favoured (is_some b.closed) (is_some d.closed)) w x
    ∙ ap₂ (λ y z. changed items (noted_in c h).want (noted_in new h).want y z b.favoured d.favoured (is_some b.closed) (is_some d.closed)) o p
    ∙ ap₂ (λ y z. changed items (noted_in c h).want (noted_in new h).want (told_of (seat_of c.seats h).order) (told_of (seat_of new.seats h).order) y z
    (is_some b.closed) (is_some d.closed))
    (sym st.favoured) (sym sd.favoured)
    ∙ ap₂ (λ (y z : Option Cause). changed items (noted_in c h).want (noted_in new h).want (told_of (seat_of c.seats h).order)
    (told_of (seat_of new.seats h).order) c.favoured new.favoured (is_some y) (is_some z))
    (sym st.closed) (sym sd.closed)

entries_are : (c : Crew) (h : ℕ) (b : Board FlatState) → Stands c b → length (stream b h) ≡ length (seat_of c.seats h).lane.entries
entries_are c h b st = ap length (sym (lane_of c.seats h ∙ ap (λ xs. stream_in xs h) st.streams))

pub comes_to : (c mid last new : Crew) (r next : Run) (h n : ℕ) (t : Turned) (b : Board FlatState) (left : Supply) → Stands c b → h < last.harts
    → (committed : Commits c mid r h n b) → terms_of mid ≡ terms_of c
    → Does mid last next h (Some t.order) (goes (steps the_machine (terms_of mid) h) (On committed.to)) left
    → new ≡ record last { seats = told_at h t.order last.seats } → t.moves ≡ n
    → t.items ≡ n + (length (seat_of new.seats h).lane.entries - length (seat_of c.seats h).lane.entries)
    → t.noted ≡ noted_by (noted_in c h) (noted_in new h) t.items → ComesTo c new next h n t b left
comes_to c mid last new r next h n t b left st inside committed same d is moves items noted =
    let made_items = items_made h n b d.to in
    let told_board = with_order h (told t.order) d.to in
    let to : Board FlatState = with_rows h n made_items b told_board in
    let kept : Leaves (terms_of mid) h committed.to (Ends (told t.order) d.to) = subst (Leaves (terms_of mid) h committed.to) d.is
    (steps_keep (terms_of mid) h committed.to) in
    let first = commits_keep (terms_of c) h n b committed.to committed.made in
    let near = near_told last next h d.to t.order inside d.stands d.agrees (subst (λ z. IsNext z h (told t.order) d.to) (sym d.terms) kept.1) in
    let stands : Stands new to = subst (λ z. Stands z to) (sym is) (stands_told last d.to h t.order to.journal to.turns d.stands inside near.0) in
    let count_is : made_items ≡ t.items =
    ap₂ (λ x y. n + (x - y)) (entries_are new h to stands) (entries_are c h b st) ∙ sym items in
    let noted_here : is_noted h made_items b told_board ≡ t.noted =
    noted_is c new h made_items b to st stands ∙ ap (noted_by (noted_in c h) (noted_in new h)) count_is ∙ sym noted in
    record {
      to = to;
      made = ap (option_and_then (λ x. ended_by h n b (goes (steps the_machine (terms_of c) h) (On x)))) committed.made
          ∙ ap (λ z. ended_by h n b (goes (steps the_machine z h) (On committed.to))) (sym same)
          ∙ ap (ended_by h n b) d.is;
      supply = d.supply;
      stands = stands;
      agrees = d.agrees;
      terms = ap terms_of is ∙ d.terms ∙ same;
      order = ap (λ (z : Crew). (seat_of z.seats h).order) is
          ∙ ap (λ (s : Seat). s.order) (seat_here last.seats h (record (seat_of last.seats h) { order = Some t.order })
          (let z = d.stands.harts in omega (arith, z, inside)));
      ahead = subst (λ (s : Seat). s.count ≤ reach s)
          (sym (ap (λ (z : Crew). seat_of z.seats h) is
          ∙ seat_here last.seats h (record (seat_of last.seats h) { order = Some t.order }) (let z = d.stands.harts in omega (arith, z, inside))))
          near.1;
      moves = moves;
      journal = ap₂ (λ i j. with_row (not (i == 0)) (h, i) j) count_is (kept.0.journal ∙ first.journal);
      turns = ap₂ (λ z m. with_row z (h, m) d.to.turns) noted_here (sym moves) ∙ ap (with_row t.noted (h, t.moves)) (kept.0.turns ∙ first.turns);
    }

-- how many moves a run made since its hart's last turn
pub moved_on : (c : Crew) (r : Run) (h n : ℕ) (b : Board FlatState) → Stands c b → IsLed r h n b.at → h < c.harts → r.count ≡ (seat_of c.seats h).count + n
moved_on c r h n b st led inside =
    let counted = runs_count c.harts c.pages h n b.at led.at led.runs st.board in
    let now = count_is r h (record b { at = led.at }) led.agrees in
    let before = st.counts h (seat_of c.seats h) (seat_there c.seats h (omega (arith, inside, st.harts))) in
    let moved = counted.1 in
    omega (arith, now, before, moved)

-- and no more than the distance of Polls
pub moves_few : (c : Crew) (r : Run) (h n : ℕ) (b : Board FlatState) → Stands c b → IsLed r h n b.at → h < c.harts → r.count ≤ reach (seat_of c.seats h)
    → (n ≤ poll_distance) × (r.count ≤ c.limit)
moves_few c r h n b st led inside within =
    let near = st.near h (seat_of c.seats h) (seat_there c.seats h (omega (arith, inside, st.harts))) in
    let x = near.1 in
    let y = near.2 in
    let moved = moved_on c r h n b st led inside in
    (omega (arith, moved, y, within), omega (arith, x, within))

pub counted_room : (seats : List Seat) (h n count : ℕ) → h < length seats → HasRoomFor n seats h → HasRoomFor n (counted_at h count seats) h
counted_room seats h n count l room =
    subst (λ (s : Seat). length s.lane.entries + n ≤ s.lane.room) (sym (seat_here seats h (record (seat_of seats h) { count = count }) l)) room

-- the hart has its seat and its want after the steps, and no more entries than the log may have bytes
pub last_there : (c mid last : Crew) (r next : Run) (h n : ℕ) (b : Board FlatState) (order : Order) (x y : SeenConsole) (k l : SeenClock)
    → Commits c mid r h n b → AccessDoes mid last r next h (Some order) (all_of mid h) x y k l → last.harts ≡ mid.harts → mid.harts ≡ c.harts → h < c.harts
    → (h < length last.seats) × (h < length last.directory.wants) × (length (seat_of last.seats h).lane.entries ≤ 536870912)
last_there c mid last r next h n b order x y k l m e steps first inside =
    let o : Supply = followed_by e.0 nothing_given in
    let d = e.4 (record m.to { supply = o }) nothing_given (stands_outside mid m.to o m.stands) m.agrees (λ f. (refl, refl)) refl in
    let seats = d.stands.harts in
    let wants = d.stands.wants_size in
    let size = d.stands.size in
    let most = d.stands.most_bytes in
    let fits = entries_fit (terms_of last) d.to h in
    let entries = entries_are last h d.to d.stands in
    (omega (arith, seats, steps, first, inside), omega (arith, wants, steps, first, inside), omega (arith, size, most, fits, entries))

-- a hart that is told how it goes on has as many entries
pub told_entries : (seats : List Seat) (h : ℕ) (order : Order) → h < length seats
    → length (seat_of (told_at h order seats) h).lane.entries ≡ length (seat_of seats h).lane.entries
told_entries seats h order l = ap (λ (s : Seat). length s.lane.entries) (seat_here seats h (record (seat_of seats h) { order = Some order }) l)
