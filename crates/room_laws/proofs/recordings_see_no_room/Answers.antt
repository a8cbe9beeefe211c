use Rattle.room_laws.proofs.Recordings.{recordings_see_no_room, lean_sees_no_room}
use Rattle.room_laws.proofs.recordings_see_no_room.Goals as goal

pub returns-clause-right : goal.returns-clause-right
returns-clause-right c = recordings_see_no_room

pub returns-clause-lean : goal.returns-clause-lean
returns-clause-lean c = lean_sees_no_room
