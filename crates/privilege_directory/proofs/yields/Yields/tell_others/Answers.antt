use Rattle.std.proofs.Common.{ap, arith, length}
use Rattle.privilege_directory.specs.Directory.{by_others}
use Rattle.privilege_directory.proofs.Others.{room_before}
use Rattle.privilege_directory.proofs.yields.Yields.tell_others.Goals as goal

pub push-requires-clause-bound : goal.push-requires-clause-bound
push-requires-clause-bound c =
    let room = room_before c.list-wait-items.result.now c.loop-wait.wait-index c.args.hart
    (record { hart = 0; count = 0 }) c.loop-wait-test.true c.if-wait-hart.true in
    let told = ap length c.loop-wait.invariant.told in
    let all = ap (λ xs. length (by_others c.args.hart xs)) c.list-wait-items.ensures in
    let few = c.requires.few in
    omega (arith, room, told, all, few)

pub push-requires-clause-room : goal.push-requires-clause-room
push-requires-clause-room c =
    let room = room_before c.list-wait-items.result.now c.loop-wait.wait-index c.args.hart
    (record { hart = 0; count = 0 }) c.loop-wait-test.true c.if-wait-hart.true in
    let told = ap length c.loop-wait.invariant.told in
    let all = ap (λ xs. length (by_others c.args.hart xs)) c.list-wait-items.ensures in
    let few = c.requires.few in
    let start = c.requires.room in
    let same = c.loop-wait.invariant.room in
    omega (arith, room, told, all, few, start, same)
