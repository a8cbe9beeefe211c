-- What may go to another thread.
use denote.Param.Send.{IsSend, recorded_send, struct_send, sendable}
use denote.Struct.Declared.{shape}
use Rattle.std.proofs.Crossing.{crosses}
use Rattle.hart_run.proofs.run.HartRun.TheSendSync as hart_run
use Rattle.board_backing.proofs.ends.Ends.TheSendSync as ends
use Rattle.turn_table.proofs.table.Pass.TheSendSync as pass
use Rattle.replay_core.proofs.position.Position.TheSendSync as position
use Rattle.replay_core.specs.contracts.turns.ReplayBoard as ReplayBoard
use Rattle.replay_core.specs.contracts.turns.ReplayBoard.TheInside as parts
use Rattle.free_replay.specs.contracts.board.ReplayTurns as ReplayTurns
use Rattle.free_replay.specs.contracts.board.ReplayTurns.TheInside as inside
use Rattle.free_replay.specs.contracts.worker.Worker as Worker

-- a replay's board, and a worker
parts_send : IsSend parts.the_row
parts_send = recorded_send _ _ _ parts.the_type.to_one
    (struct_send (shape parts.the_type)
    (position.the_field_send, (search (sendable, crosses) depth 20, (ends.the_field_send, (search (sendable, crosses) depth 20, tt)))))

board_send : IsSend ReplayBoard.the_row
board_send = search (sendable, parts_send) depth 20

inside_send : IsSend inside.the_row
inside_send = recorded_send _ _ _ inside.the_type.to_one
    (struct_send (shape inside.the_type) (search (sendable, board_send) depth 20, (search sendable depth 20, (search sendable depth 20, tt))))

pub turns_send : IsSend ReplayTurns.the_row
turns_send = search (sendable, inside_send) depth 20

pub worker_send : IsSend Worker.the_row
worker_send = recorded_send _ _ _ Worker.the_type.to_one
    (struct_send (shape Worker.the_type) (
      search (sendable, pass.the_field_send, turns_send) depth 20,
      (search (sendable, hart_run.the_send) depth 20, (search sendable depth 20, (search sendable depth 20, tt))),
    ))
