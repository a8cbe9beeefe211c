use Rattle.std.proofs.Common.{◌≡◌, ◌-◌, map}
use Rattle.log_entry.specs.Room.{stream_without_room}
use Rattle.log_format.specs.Format.{repeat_at}
use Rattle.log_format.specs.Grammar.{stream_format}
use Rattle.log_format.proofs.Loop.{with_front}
use Rattle.log_format.proofs.reading.stream_list.Given as goal

abbrev pub invariant-loop : goal.invariant-loop
invariant-loop l =
    with_front (map stream_without_room l.streams.items) (repeat_at (stream_format l.harts l.units).read (l.harts - l.counter) l.rest)
    ≡ repeat_at (stream_format l.harts l.units).read l.harts l.bytes
