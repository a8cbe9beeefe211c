use Rattle.std.proofs.Common.{◌≡◌, ◌<◌, ℕ, map}
use Rattle.crew_core.specs.Seats.{without_room, HasRoomFor}
use Rattle.crew_core.proofs.seat.reserve_all.Given as goal

abbrev pub invariant-loop-hart : goal.invariant-loop-hart
invariant-loop-hart l = record {
  same : map without_room l.seats ≡ map without_room l.fn.seats;
  room : (h : ℕ) → h < l.hart → HasRoomFor l.more l.seats h;
}
