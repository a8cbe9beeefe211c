use Rattle.std.proofs.Common.{◌≡◌, ◌+◌, ◌++◌, ◌≤◌, map, length, vec_capacity}
use Rattle.std.specs.Vec.Iter.{into_iter_items}
use Rattle.log_entry.specs.Room.{stream_without_room}
use Rattle.crew_core.specs.Finish.{ended_stream}
use Rattle.crew_core.proofs.finish.ended.Given as goal

-- the streams so far, and the seats behind them
abbrev pub invariant-loop-seat : goal.invariant-loop-seat
invariant-loop-seat l = record {
  same : map stream_without_room l.streams.items ++ map ended_stream (into_iter_items l.seat-iterator) ≡ map ended_stream l.fn.seats.items;
  room : length l.streams.items + length (into_iter_items l.seat-iterator) ≤ vec_capacity l.streams;
}
