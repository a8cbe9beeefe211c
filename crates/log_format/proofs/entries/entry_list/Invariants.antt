use Rattle.std.proofs.Common.{◌≡◌, ◌-◌, map}
use Rattle.log_entry.specs.Room.{entry_without_room}
use Rattle.log_format.specs.Format.{repeat_at}
use Rattle.log_format.specs.Grammar.{entry_format}
use Rattle.log_format.proofs.Loop.{with_front}
use Rattle.log_format.proofs.entries.entry_list.Given as goal

abbrev pub invariant-loop : goal.invariant-loop
invariant-loop l =
    with_front (map entry_without_room l.entries.items) (repeat_at (entry_format l.harts l.units).read (l.count - l.counter) l.rest)
    ≡ repeat_at (entry_format l.harts l.units).read l.count l.bytes
