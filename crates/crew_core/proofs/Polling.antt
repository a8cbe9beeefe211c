-- A hart of the crew takes its lines from the devices.
use Rattle.std.proofs.Common.{◌≡◌, ℕ, ◌+◌, ◌%◌, ◌<◌, ◌≤◌, ◌==◌, ◌&&◌, ◌++◌, max, nat_lt, nat_le, not, Bool, true, false, List, [], ◌∷◌, length, Option}
use Rattle.std.proofs.Common.{Some, None, unwrap_or, refl, sym, ap, ap₂, ◌∙◌, subst, arith, inl, inr, if◌then◌else◌}
use Rattle.std.proofs.lemmas.Bool.{cases_eq, eq-eqb, ne_eqb}
use Rattle.rv_words.specs.declared.shared.Cause.TheVariants.{Full}
use Rattle.log_entry.specs.declared.log.Entry.{Entry}
use Rattle.log_entry.specs.declared.log.Entry.TheVariants.{Poll}
use Rattle.order_rules.specs.Places.{is_number}
use Rattle.order_rules.specs.Rules.{has_poll}
use Rattle.device_board.specs.State.{Devices, lines_at}
use Rattle.flat_machine.specs.State.{FlatState}
use Rattle.crew_parts.specs.Boards.{the_board}
use Rattle.replay_model.specs.Items.{effect}
use Rattle.run_model.specs.Run.{Run}
use Rattle.run_model.specs.Agreement.{Agrees}
use Rattle.board_backing.specs.declared.backing.Backing.{Backing}
use Rattle.board_backing.specs.Backing.{Leads}
use Rattle.crew_recording.specs.Recording.{stream_in}
use Rattle.crew_recording.proofs.OrderedRecordings.{did_entry}
use Rattle.turn_model.specs.Laws.{IsPagedBoard}
use Rattle.crew_core.proofs.Machine.{faithful}
use Rattle.crew_parts.specs.Boards.{the_machine}
use Rattle.turn_model.specs.Board.{Board, Supply, Terms, stream, closes}
use Rattle.turn_model.specs.Board as model
use Rattle.turn_model.specs.Ways.{On, Ends, on, with_room}
use Rattle.turn_model.specs.Steps.{is_due, poll_at, polls, polls_with, clock_answers}
use Rattle.crew_core.specs.declared.crew.Crew.{Crew}
use Rattle.crew_core.specs.declared.order.Order.TheVariants.{Rest}
use Rattle.crew_core.specs.Seats.{seat_of, with_entry, polled_at}
use Rattle.crew_core.specs.Standing.{Stands, IsLatestPoll, terms_of}
use Rattle.crew_core.specs.Does.{Does, Enters}
use Rattle.crew_core.proofs.Seated.{lane_of, seat_there}
use Rattle.crew_core.proofs.Entries.{entered_is, further, past_agrees}
use Rattle.crew_core.proofs.Yielding.{count_is}
use Rattle.crew_core.proofs.Ordinals.{IsOrdinal, stands_ordinal, poll_is, poll_latest}
use Rattle.crew_core.proofs.Stepping.{room_is, filled, stands_outside}

-- a hart's stream, and the latest Poll in it
pub poll_here : (s : List Entry) (polled : Option ℕ) (count : ℕ) → IsLatestPoll s polled count → has_poll s count ≡ is_number count polled
poll_here s None count latest = latest count
poll_here s (Some last) count latest = elim (cases_eq last count) [
  | inl e ↦ subst (λ n. has_poll s n ≡ true) e latest.0 ∙ sym (eq-eqb last count e)
  | inr n ↦ latest.2 count (let z = latest.1 in omega (arith, z, n)) ∙ sym (ne_eqb last count n)
]

pub due_is : (c : Crew) (r : Run) (h : ℕ) (b : Board FlatState) (t : Bool) → h < c.harts → t
    ≡ (nat_lt r.count c.limit && ((r.count % 4096 == 0) && not (is_number r.count (seat_of c.seats h).polled))) → Stands c b → Agrees r h b.at
    → t ≡ is_due the_machine (terms_of c) h b
due_is c r h b t inside is st a =
    let l : h < length c.seats = omega (arith, inside, st.harts) in
    let seat = seat_of c.seats h in
    let now : seat.count ≡ r.count = st.counts h seat (seat_there c.seats h l) ∙ count_is r h b a in
    let entries : seat.lane.entries ≡ stream b h = lane_of c.seats h ∙ ap (λ xs. stream_in xs h) st.streams in
    let here : has_poll (stream b h) r.count ≡ is_number r.count seat.polled =
    subst (λ s. has_poll s r.count ≡ is_number r.count seat.polled) entries
    (subst (λ n. has_poll seat.lane.entries n ≡ is_number n seat.polled) now
    (poll_here seat.lane.entries seat.polled seat.count (st.polls h seat (seat_there c.seats h l)))) in
    is ∙ ap (λ z. nat_lt r.count c.limit && ((r.count % 4096 == 0) && not z)) (sym here)
    ∙ ap (λ n. nat_lt n c.limit && ((n % 4096 == 0) && not (has_poll (stream b h) n))) (sym (count_is r h b a))

max_turned : (a b : ℕ) → max a b ≡ max b a
max_turned a b = omega arith

pub poll_enters : (c new : Crew) (r next : Run) (b : Board FlatState) (h count ord time bits now : ℕ) (backing : Backing) → Stands c b → Agrees r h b.at
    → h < c.harts → c.size + 22 ≤ 536870912 → count ≡ r.count → ord ≡ c.ordinal
    → time ≡ max c.backing.devices.devices.mtime now → bits ≡ lines_at c.backing.devices.devices h time
    → new ≡ record c { backing = backing; ordinal = ord + 1; seats = polled_at h (Poll count ord time bits) count c.seats; size = c.size + 22 }
    → backing.devices.devices.harts ≡ c.backing.devices.devices.harts → Leads c.backing backing next h (effect the_board b.at h (Poll count ord time bits))
    → Enters c new next h (poll_at the_machine (terms_of c) h b (max now (the_board.time b.at.flat))) b
poll_enters c new r next b h count ord time bits now backing st a inside fits counts ords times lines is device_harts led =
    let e = Poll count ord time bits in
    let l : h < length c.seats = omega (arith, inside, st.harts) in
    let seat = seat_of c.seats h in
    let seat_count : seat.count ≡ count = st.counts h seat (seat_there c.seats h l) ∙ count_is r h b a ∙ sym counts in
    let time_is : max now (the_board.time b.at.flat) ≡ time = max_turned now (the_board.time b.at.flat)
    ∙ ap (λ (d : Devices). max d.mtime now) (sym st.backs.devices_are) ∙ sym times in
    let bits_are : the_board.lines_at b.at.flat h time ≡ bits = ap (λ d. lines_at d h time) (sym st.backs.devices_are) ∙ sym lines in
    let same : poll_at the_machine (terms_of c) h b (max now (the_board.time b.at.flat)) ≡ e =
    ap (λ t. poll_at the_machine (terms_of c) h b t) time_is
    ∙ ap₂ (λ n m. Poll n m time (the_board.lines_at b.at.flat h time)) (count_is r h b a ∙ sym counts) (sym st.ordinal ∙ sym ords)
    ∙ ap (λ m. Poll count ord time m) bits_are in
    let did = did_entry the_board c.harts (IsPagedBoard c.harts c.pages) (faithful c.harts c.pages).steady (faithful c.harts c.pages).timed c.pages c.limit
    b.at led.at h e st.board led.made in
    let stays : the_board.count led.at.flat h ≡ count = did.own ∙ count_is r h b a ∙ sym counts in
    subst (λ z. Enters c new next h z b) (sym same)
    (record {
      to = further b h e led.at;
      made = entered_is c b h e led.at led.made;
      supply = refl;
      stands = subst (λ z. Stands z (further b h e led.at)) (sym
          (is ∙ ap (λ n. record c { backing = backing; ordinal = n + 1; seats = polled_at h e count c.seats; size = c.size + 22 }) ords))
          (stands_ordinal c b h e led.at backing (record (with_entry e seat) { polled = Some count }) st inside
          (subst (IsOrdinal e) (ords ∙ st.ordinal) (poll_is count ord time bits)) fits led.made led.backs (led.unit_is ∙ st.unit_is) device_harts
          (record {
            entries = refl;
            count = seat_count ∙ sym stays;
            polls = subst (λ n. IsLatestPoll (seat.lane.entries ++ e ∷ []) (Some count) n)
                (sym seat_count) (poll_latest seat.lane.entries seat.polled count ord time bits
                (subst (IsLatestPoll seat.lane.entries seat.polled) seat_count (st.polls h seat (seat_there c.seats h l))));
            order = refl;
          })
          (st.near h seat (seat_there c.seats h l)));
      agrees = past_agrees next h e led.at led.agrees;
    })

-- nothing is due
pub none_due : (c : Crew) (r : Run) (h : ℕ) (b : Board FlatState) (left : List ℕ) → Stands c b → Agrees r h b.at → is_due the_machine (terms_of c) h b ≡ false
    → b.supply.times ≡ [] ++ left
    → Does c c r h None (polls the_machine (terms_of c) h b) (record b.supply { times = left })
none_due c r h b left st a none times = record {
  to = b;
  is = ap (λ t. if t then with_room the_machine (terms_of c) (poll_at the_machine (terms_of c) h b 0)
      (λ c'. polls_with the_machine (terms_of c) h c' (clock_answers c'.supply.times c'.supply)) b else On b) none;
  supply = ap (λ ts. record b.supply { times = ts }) times;
  stands = st;
  agrees = a;
  terms = refl;
}

due_step : (t : Terms) (h : ℕ) (b : Board FlatState) → is_due the_machine t h b ≡ true
    → polls the_machine t h b ≡ with_room the_machine t (poll_at the_machine t h b 0)
    (λ c'. polls_with the_machine t h c' (clock_answers c'.supply.times c'.supply)) b
due_step t h b due = ap (λ z. if z then with_room the_machine t (poll_at the_machine t h b 0)
    (λ c'. polls_with the_machine t h c' (clock_answers c'.supply.times c'.supply)) b else On b) due

pub due_fills : (c new : Crew) (r : Run) (h : ℕ) (b : Board FlatState) (left : List ℕ) → Stands c b → Agrees r h b.at → is_due the_machine (terms_of c) h b
    ≡ true → nat_le (c.size + 22) c.log_limit ≡ false
    → new ≡ record c { closed = Some (unwrap_or c.closed Full) } → b.supply.times ≡ [] ++ left
    → Does c new r h (Some Rest) (polls the_machine (terms_of c) h b) (record b.supply { times = left })
due_fills c new r h b left st a due full is times =
    subst (λ z. Does c new r h (Some Rest) z (record b.supply { times = left })) (sym (due_step (terms_of c) h b due))
    (subst (λ o. Does c new r h (Some Rest) (with_room the_machine (terms_of c) (poll_at the_machine (terms_of c) h b 0)
    (λ c'. polls_with the_machine (terms_of c) h c' (clock_answers c'.supply.times c'.supply)) b) o)
    (ap (λ ts. record b.supply { times = ts }) times)
    (filled c new r h b (poll_at the_machine (terms_of c) h b 0) 22 (λ c'. polls_with the_machine (terms_of c) h c' (clock_answers c'.supply.times c'.supply))
    st a refl full is))

pub due_polls : (c new : Crew) (r next : Run) (h now : ℕ) (b : Board FlatState) (left : List ℕ) → Stands c b → is_due the_machine (terms_of c) h b ≡ true
    → nat_le (c.size + 22) c.log_limit ≡ true → terms_of new ≡ terms_of c
    → b.supply.times ≡ (now ∷ []) ++ left
    → ((d : Board FlatState) → Stands c d → d.at ≡ b.at → Enters c new next h (poll_at the_machine (terms_of c) h d (max now (the_board.time d.at.flat))) d)
    → Does c new next h None (polls the_machine (terms_of c) h b) (record b.supply { times = left })
due_polls c new r next h now b left st due room same times enters =
    let o : Supply = record b.supply { times = left } in
    let d : Board FlatState = record b { supply = o } in
    let entry = enters d (stands_outside c b o st) refl in
    let e = poll_at the_machine (terms_of c) h b (max now (the_board.time b.at.flat)) in
    record {
      to = entry.to;
      is = due_step (terms_of c) h b due
          ∙ ap (λ t. if t then polls_with the_machine (terms_of c) h b (clock_answers b.supply.times b.supply) else Ends model.Rest (closes Full b))
          (room_is c b (poll_at the_machine (terms_of c) h b 0) 22 st refl ∙ room)
          ∙ ap (λ ts. polls_with the_machine (terms_of c) h b (clock_answers ts b.supply)) times
          ∙ ap on entry.made;
      supply = entry.supply;
      stands = entry.stands;
      agrees = entry.agrees;
      terms = same;
    }
