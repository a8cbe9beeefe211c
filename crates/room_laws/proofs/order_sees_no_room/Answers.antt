use Rattle.room_laws.proofs.Judged.{entries_see_no_room, order_sees_no_room}
use Rattle.room_laws.proofs.order_sees_no_room.Goals as goal

pub returns-clause-entries : goal.returns-clause-entries
returns-clause-entries c = entries_see_no_room

pub returns-clause-logs : goal.returns-clause-logs
returns-clause-logs c = order_sees_no_room
