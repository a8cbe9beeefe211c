use Rattle.room_laws.proofs.Recordings.{bytes_see_no_room}
use Rattle.room_laws.proofs.bytes_see_no_room.Goals as goal

pub returns : goal.returns
returns c = bytes_see_no_room
