-- The seats once a hart made an entry.
use Rattle.std.proofs.Common.{◌≡◌, ◌≢◌, ◌⊎◌, inl, inr, ℕ, zero, suc, ◌+◌, ◌<◌, ◌≤◌, ◌==◌, ◌&&◌, ◌||◌, ◌++◌, false, List, [], ◌∷◌, length, map, Option}
use Rattle.std.proofs.Common.{Some, None, slice_get, slice_set, unwrap_or, refl, sym, ap, ◌∙◌, subst, arith}
use Rattle.std.proofs.lemmas.Option.{same_Some}
use Rattle.std.proofs.lemmas.Bool.{cases_eq}
use Rattle.std.proofs.lemmas.List.{length_push}
use Rattle.log_entry.specs.declared.log.Entry.{Entry}
use Rattle.log_entry.specs.Parts.{count_of, is_poll}
use Rattle.order_rules.specs.Rules.{has_poll}
use Rattle.shared_types.proofs.Lists.{set_here, set_there}
use Rattle.crew_recording.specs.Recording.{stream_in}
use Rattle.crew_core.specs.declared.seat.Seat.{Seat}
use Rattle.crew_core.specs.Seats.{no_seat, seat_of, with_entry, entered_at, HasRoomFor}
use Rattle.turn_model.specs.Board as model
use Rattle.crew_core.specs.declared.order.Order.{Order}
use Rattle.crew_core.specs.declared.order.Order.TheVariants.{Go, Hold, Rest}
use Rattle.rv_words.specs.Limits.{poll_distance}
use Rattle.crew_core.specs.Orders.{told_of}
use Rattle.crew_parts.specs.Parts.{until_by}
use Rattle.crew_core.specs.Standing.{IsLatestPoll, IsNear}

abbrev pub lanes : List Seat → List (List Entry)
lanes seats = map (λ (s : Seat). s.lane.entries) seats

pub lanes_set : (seats : List Seat) (h : ℕ) (x : Seat) → lanes (slice_set seats h x) ≡ slice_set (lanes seats) h x.lane.entries
lanes_set [] h x = refl
lanes_set (s ∷ seats) zero x = refl
lanes_set (s ∷ seats) (suc h) x = ap (λ zs. s.lane.entries ∷ zs) (lanes_set seats h x)

pub lane_of : (seats : List Seat) (h : ℕ) → (seat_of seats h).lane.entries ≡ stream_in (lanes seats) h
lane_of [] h = refl
lane_of (s ∷ seats) zero = refl
lane_of (s ∷ seats) (suc h) = lane_of seats h

pub lanes_size : (seats : List Seat) → length (lanes seats) ≡ length seats
lanes_size [] = refl
lanes_size (s ∷ seats) = ap suc (lanes_size seats)

pub seat_there : (seats : List Seat) (h : ℕ) → h < length seats → slice_get seats h ≡ Some (seat_of seats h)
seat_there [] h l = absurd (omega (arith, l))
seat_there (s ∷ seats) zero l = refl
seat_there (s ∷ seats) (suc h) l = seat_there seats h (omega (arith, l))

-- who sits there once a seat is another
pub seated : (seats : List Seat) (h g : ℕ) (x s : Seat) → h < length seats → slice_get (slice_set seats h x) g ≡ Some s
    → ((g ≡ h) × (x ≡ s)) ⊎ ((g ≢ h) × (slice_get seats g ≡ Some s))
seated seats h g x s l at = elim (cases_eq g h) [
  | inl e ↦ inl (e, same_Some _ _ (sym (set_here seats h x l) ∙ subst (λ z. slice_get (slice_set seats h x) z ≡ Some s) e at))
  | inr n ↦ inr (n, sym (set_there seats h g x n) ∙ at)
]

has_more : (s : List Entry) (e : Entry) (n : ℕ) → is_poll e ≡ false → has_poll (s ++ e ∷ []) n ≡ has_poll s n
has_more [] e n f = ap (λ z. (z && (count_of e == n)) || false) f
has_more (x ∷ s) e n f = ap (λ z. (is_poll x && (count_of x == n)) || z) (has_more s e n f)

pub latest_more : (s : List Entry) (e : Entry) (polled : Option ℕ) (count : ℕ) → is_poll e ≡ false → IsLatestPoll s polled count
    → IsLatestPoll (s ++ e ∷ []) polled count
latest_more s e None count f latest = λ n. has_more s e n f ∙ latest n
latest_more s e (Some last) count f latest = (has_more s e last f ∙ latest.0, latest.1, λ n l. has_more s e n f ∙ latest.2 n l)

pub seat_here : (seats : List Seat) (h : ℕ) (x : Seat) → h < length seats → seat_of (slice_set seats h x) h ≡ x
seat_here seats h x l = ap (λ o. unwrap_or o no_seat) (set_here seats h x l)

-- an entry takes the room of one
pub room_left : (seats : List Seat) (h : ℕ) (e : Entry) (n : ℕ) → h < length seats → HasRoomFor (n + 1) seats h → HasRoomFor n (entered_at h e seats) h
room_left seats h e n l room =
    subst (λ (s : Seat). length s.lane.entries + n ≤ s.lane.room) (sym (seat_here seats h (with_entry e (seat_of seats h)) l))
    (let z = length_push (seat_of seats h).lane.entries e in omega (arith, z, room))

abbrev pub orders : List Seat → List (Option model.Order)
orders seats = map (λ (s : Seat). told_of s.order) seats

-- a seat with the same order leaves the orders
pub orders_kept : (seats : List Seat) (h : ℕ) (x : Seat) → x.order ≡ (seat_of seats h).order → orders (slice_set seats h x) ≡ orders seats
orders_kept [] h x e = refl
orders_kept (s ∷ seats) zero x e = ap (λ o. told_of o ∷ orders seats) e
orders_kept (s ∷ seats) (suc h) x e = ap (λ zs. told_of s.order ∷ zs) (orders_kept seats h x e)

pub orders_set : (seats : List Seat) (h : ℕ) (x : Seat) → orders (slice_set seats h x) ≡ slice_set (orders seats) h (told_of x.order)
orders_set [] h x = refl
orders_set (s ∷ seats) zero x = refl
orders_set (s ∷ seats) (suc h) x = ap (λ zs. told_of s.order ∷ zs) (orders_set seats h x)

pub order_of : (seats : List Seat) (h : ℕ) → told_of (seat_of seats h).order ≡ unwrap_or (slice_get (orders seats) h) None
order_of [] h = refl
order_of (s ∷ seats) zero = refl
order_of (s ∷ seats) (suc h) = order_of seats h

-- each hart is near still once a near one sits there
pub near_set : (limit : ℕ) (seats : List Seat) (h : ℕ) (x : Seat) → h < length seats → IsNear limit x
    → ((g : ℕ) (s : Seat) → slice_get seats g ≡ Some s → IsNear limit s)
    → (g : ℕ) (s : Seat) → slice_get (slice_set seats h x) g ≡ Some s → IsNear limit s
near_set limit seats h x l near all g s at = elim (seated seats h g x s l at) [
  | inl here ↦ subst (IsNear limit) here.1 near
  | inr there ↦ all g s there.1
]

-- a hart that moved on within the limit
pub near_later : (limit n : ℕ) (s : Seat) → s.count ≤ n → n ≤ limit → IsNear limit s → IsNear limit (record s { count = n })
near_later limit n s l within near = let z = by s.order near.1 near.2 in (within, z.0, z.1) where
  by : (o : Option Order) → until_by s.count (told_of o) ≤ limit → until_by s.count (told_of o) ≤ s.count + poll_distance
      → (until_by n (told_of o) ≤ limit) × (until_by n (told_of o) ≤ n + poll_distance)
  by None x y = (within, omega arith)
  by (Some Rest) x y = (within, omega arith)
  by (Some (Hold page other)) x y = (within, omega arith)
  by (Some (Go until)) x y = (x, omega (arith, y, l))
