use Rattle.std.proofs.Common.{◌<◌, ◌∙◌, length, arith}
use Rattle.crew_core.proofs.Sets.{room_at, roomier_at}
use Rattle.crew_core.proofs.seat.reserve_all.Goals as goal

pub returns-in_err-reserve-clause-same : goal.returns-in_err-reserve-clause-same
returns-in_err-reserve-clause-same c =
    let l : c.loop-hart.hart < length c.loop-hart.seats = omega arith in
    roomier_at c.loop-hart.seats c.loop-hart.hart c.index-seats-hart.result c.reserve.new.self l c.in_err-reserve.ensures.entries ∙ c.loop-hart.invariant.same

pub loop-hart-preserved : goal.loop-hart-preserved
loop-hart-preserved c =
    let l : c.loop-hart.hart < length c.loop-hart.seats = omega arith in
    record {
      same =
          roomier_at c.loop-hart.seats c.loop-hart.hart c.index-seats-hart.result c.reserve.new.self l c.in_ok-reserve.ensures.entries
          ∙ c.loop-hart.invariant.same;
      room = room_at c.loop-hart.seats c.loop-hart.hart c.args.more _ l c.in_ok-reserve.ensures.room c.loop-hart.invariant.room;
    }
