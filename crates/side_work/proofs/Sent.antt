-- What may go to another thread.
use denote.RattleType.{RattleType}
use denote.Param.Send.{IsSend, IsSync, recorded_send, recorded_sync, struct_send, struct_sync, sendable}
use denote.Struct.Declared.{shape}
use Rattle.turn_table.proofs.table.TurnTable.TheSendSync as table
use Rattle.turn_table.proofs.table.Pass.TheSendSync as pass
use Rattle.std.proofs.sync.atomic.AtomicU64.TheSendSync as atomic
use Rattle.std.proofs.sync.Arc.TheSendSync as arc
use Rattle.std.proofs.alloc.Global.TheSendSync as heap
use Rattle.std.proofs.Crossing.{frees}
use Rattle.std.specs.contracts.option.Option as Option
use Rattle.side_work.specs.declared.desk.Work.{Ghosts}
use Rattle.side_work.specs.contracts.desk.Desk as Desk
use Rattle.side_work.specs.contracts.desk.Place as Place
use Rattle.side_work.specs.contracts.worker.Worker as Worker
use Rattle.side_work.specs.contracts.worker.Worker.TheInside as inside

pub desk_send : (W : RattleType) (g : Ghosts W.Denot) → IsSend W → IsSend (Desk.the_row W g)
desk_send W g s = search sendable depth 20

pub place_sync : (W : RattleType) (g : Ghosts W.Denot) → IsSend W → IsSync (Place.the_row W g)
place_sync W g s = recorded_sync _ _ _ (Place.the_type W g).to_one
    (struct_sync (shape (Place.the_type W g)) (table.the_field_sync (Desk.the_row W g) (Option.the_row W) _ (desk_send W g s), (atomic.the_sync, tt)))

pub place_send : (W : RattleType) (g : Ghosts W.Denot) → IsSend W → IsSend (Place.the_row W g)
place_send W g s = recorded_send _ _ _ (Place.the_type W g).to_one
    (struct_send (shape (Place.the_type W g)) (table.the_field_send (Desk.the_row W g) (Option.the_row W) _ (desk_send W g s), (atomic.the_send, tt)))

pub worker_send : (W : RattleType) (g : Ghosts W.Denot) → IsSend W → IsSend (Worker.the_row W g)
worker_send W g s =
    let place = arc.the_send (Place.the_row W g) _ _ (place_send W g s) heap.the_send (place_sync W g s) heap.the_sync frees in
    let mine = pass.the_field_send (Desk.the_row W g) (Option.the_row W) (desk_send W g s) in
    let inner : IsSend (inside.the_row W g) =
    recorded_send _ _ _ (inside.the_type W g).to_one (struct_send (shape (inside.the_type W g)) (place, (mine, tt)))
    in
    search (sendable, inner) depth 20
