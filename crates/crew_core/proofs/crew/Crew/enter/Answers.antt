use Rattle.std.proofs.Common.{subst, sym, List}
use Rattle.crew_core.specs.declared.seat.Seat.{Seat}
use Rattle.crew_core.specs.Seats.{HasRoomFor}
use Rattle.log_entry.specs.Room.{entry_without_room}
use Rattle.crew_core.proofs.Seated.{room_left}
use Rattle.crew_core.proofs.crew.Crew.enter.Goals as goal

pub returns-clause-room : goal.returns-clause-room
returns-clause-room c = λ n room. subst (λ (s : List Seat). HasRoomFor n s c.args.hart) (sym c.enter.ensures)
    (room_left c.args.self.now.seats c.args.hart (entry_without_room c.args.entry) n c.requires.hart room)
