use Rattle.room_laws.proofs.Recordings.{replays_see_no_room, beginnings_see_no_room, atomics_see_no_room}
use Rattle.room_laws.proofs.replays_see_no_room.Goals as goal

pub returns-clause-board : goal.returns-clause-board
returns-clause-board c = replays_see_no_room

pub returns-clause-beginnings : goal.returns-clause-beginnings
returns-clause-beginnings c = beginnings_see_no_room

pub returns-clause-atomics : goal.returns-clause-atomics
returns-clause-atomics c = atomics_see_no_room
