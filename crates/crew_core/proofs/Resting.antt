-- A hart rests, or goes on by itself.
use Rattle.std.proofs.Common.{inl, inr, ◌≢◌, ◌≡◌, ℕ, ◌+◌, ◌-◌, ◌*◌, ◌/◌, ◌<◌, ◌≤◌, ◌==◌, ◌||◌, min, Bool, true, false, List, Option, Some, None, length}
use Rattle.std.proofs.Common.{is_some, refl, sym, ap, ap₂, ◌∙◌, subst, arith, if◌then◌else◌}
use Rattle.std.proofs.lemmas.Bool.Decides.{leb_tells}
use Rattle.rv_words.specs.Limits.{poll_distance}
use Rattle.rv_words.specs.declared.shared.Cause.{Cause}
use Rattle.device_board.specs.State.{Devices}
use Rattle.log_entry.specs.declared.log.Entry.{Entry}
use Rattle.flat_machine.specs.State.{FlatState}
use Rattle.run_model.specs.Run.{Run}
use Rattle.run_model.specs.Agreement.{Agrees}
use Rattle.crew_recording.specs.Recording.{stream_in}
use Rattle.turn_model.specs.Board as model
use Rattle.turn_model.specs.Board.{Board, stream}
use Rattle.turn_model.specs.Ways.{On, Ends}
use Rattle.turn_model.specs.Steps.{rests_where_closed, rests_at_limit, next_poll, goes_on}
use Rattle.crew_core.specs.declared.crew.Crew.{Crew}
use Rattle.crew_core.specs.declared.order.Order.{Order}
use Rattle.crew_core.specs.declared.order.Order.TheVariants.{Rest, Go}
use Rattle.crew_parts.specs.Boards.{the_board, the_machine}
use Rattle.crew_core.specs.Seats.{seat_of}
use Rattle.crew_core.specs.Standing.{Stands, IsLatestPoll, terms_of}
use Rattle.crew_core.specs.Does.{Does}
use Rattle.crew_core.specs.Calls.{IsPast, poll_after}
use Rattle.crew_core.proofs.Seated.{lane_of, seat_there}
use Rattle.crew_core.proofs.Yielding.{count_is}
use Rattle.crew_core.proofs.Polling.{poll_here}
use Rattle.crew_core.proofs.Committing.{later_poll}

abbrev rest_if : Bool → Option Order
rest_if t = if t then Some Rest else None

closed_test : (c : Crew) (b : Board FlatState) → Stands c b
    → (is_some b.closed || the_board.is_stopped b.at.flat) ≡ (is_some c.closed || is_some c.backing.devices.devices.stop)
closed_test c b st =
    ap₂ (λ (o : Option Cause) (d : Devices). is_some o || is_some d.stop) (sym st.closed) (sym st.backs.devices_are)

pub rests : (c : Crew) (r : Run) (h : ℕ) (b : Board FlatState) (t : Bool) → (is_some c.closed || is_some c.backing.devices.devices.stop) ≡ t
    → Stands c b → Agrees r h b.at → Does c c r h (rest_if t) (rests_where_closed the_machine (terms_of c) b) b.supply
rests c r h b t is st a = by t (closed_test c b st ∙ is) where
  by : (t : Bool) → (is_some b.closed || the_board.is_stopped b.at.flat) ≡ t
      → Does c c r h (rest_if t) (rests_where_closed the_machine (terms_of c) b) b.supply
  by true e = record { to = b; is = ap (λ z. if z then Ends model.Rest b else On b) e; supply = refl; stands = st; agrees = a; terms = refl }
  by false e = record { to = b; is = ap (λ z. if z then Ends model.Rest b else On b) e; supply = refl; stands = st; agrees = a; terms = refl }

pub rests_there : (c : Crew) (r : Run) (h : ℕ) (b : Board FlatState) (t : Bool) → (r.count == c.limit) ≡ t
    → Stands c b → Agrees r h b.at → Does c c r h (rest_if t) (rests_at_limit the_machine (terms_of c) h b) b.supply
rests_there c r h b t is st a = by t (ap (λ n. n == c.limit) (count_is r h b a) ∙ is) where
  by : (t : Bool) → (the_board.count b.at.flat h == c.limit) ≡ t
      → Does c c r h (rest_if t) (rests_at_limit the_machine (terms_of c) h b) b.supply
  by true e = record { to = b; is = ap (λ z. if z then Ends model.Rest b else On b) e; supply = refl; stands = st; agrees = a; terms = refl }
  by false e = record { to = b; is = ap (λ z. if z then Ends model.Rest b else On b) e; supply = refl; stands = st; agrees = a; terms = refl }

-- a count rounded up is no less
rounded : (n : ℕ) → n ≤ (n + 4095) / 4096 * 4096
rounded n = omega arith

pub next_is : (s : List Entry) (polled : Option ℕ) (count : ℕ) → IsLatestPoll s polled count → next_poll count s ≡ poll_after count polled
next_is s polled count latest =
    let due = (count + (poll_distance - 1)) / poll_distance * poll_distance in
    ap (λ t. if t then due + poll_distance else due) (poll_here s polled due (later_poll s polled count due (rounded count) latest))

-- a latest Poll is past
pub is_past : (s : List Entry) (polled : Option ℕ) (count : ℕ) → IsLatestPoll s polled count → IsPast polled count
is_past s None count latest = tt
is_past s (Some last) count latest = latest.1

pub latest_of : (c : Crew) (r : Run) (h : ℕ) (b : Board FlatState) → h < c.harts → Stands c b → Agrees r h b.at
    → IsLatestPoll (stream b h) (seat_of c.seats h).polled r.count
latest_of c r h b inside st a =
    let l : h < length c.seats = omega (arith, inside, st.harts) in
    let seat = seat_of c.seats h in
    let now : seat.count ≡ r.count = st.counts h seat (seat_there c.seats h l) ∙ count_is r h b a in
    let entries : seat.lane.entries ≡ stream b h = lane_of c.seats h ∙ ap (λ xs. stream_in xs h) st.streams in
    subst (λ s. IsLatestPoll s seat.polled r.count) entries
    (subst (IsLatestPoll seat.lane.entries seat.polled) now (st.polls h seat (seat_there c.seats h l)))

pub past_of : (c : Crew) (r : Run) (h : ℕ) (b : Board FlatState) → h < c.harts → Stands c b → Agrees r h b.at → IsPast (seat_of c.seats h).polled r.count
past_of c r h b inside st a = is_past (stream b h) (seat_of c.seats h).polled r.count (latest_of c r h b inside st a)

pub goes_there : (c : Crew) (r : Run) (h until : ℕ) (b : Board FlatState) → h < c.harts
    → until ≡ min c.limit (poll_after r.count (seat_of c.seats h).polled) → Stands c b → Agrees r h b.at
    → Does c c r h (Some (Go until)) (goes_on the_machine (terms_of c) h b) b.supply
goes_there c r h until b inside is st a = record {
  to = b;
  is = ap (λ n. Ends (model.Go (min c.limit (next_poll n (stream b h)))) b) (count_is r h b a)
      ∙ ap (λ n. Ends (model.Go (min c.limit n)) b) (next_is (stream b h) (seat_of c.seats h).polled r.count (latest_of c r h b inside st a))
      ∙ ap (λ n. Ends (model.Go n) b) (sym is);
  supply = refl;
  stands = st;
  agrees = a;
  terms = refl;
}

pub open_by : (o : Option Cause) (p : Option ℕ) → (is_some o || is_some p) ≡ false → (o ≡ None) × (p ≡ None)
open_by None None e = (refl, refl)
open_by None (Some x) e = absurd (let bad : ⊥ = cc in bad)
open_by (Some x) p e = absurd (let bad : ⊥ = cc in bad)

pub under : (a b : ℕ) → a ≢ b → a ≤ b → a < b
under a b n l = elim (leb_tells b a) [ inl (t, m) ↦ absurd (n (omega (arith, l, m))) | inr (f, m) ↦ m ]
