use Rattle.std.proofs.Common.{◌≡◌, ◌-◌}
use Rattle.log_format.specs.Format.{repeat_at}
use Rattle.log_format.specs.Grammar.{wait_format}
use Rattle.log_format.proofs.Loop.{with_front}
use Rattle.log_format.proofs.entries.wait_list.Given as goal

abbrev pub invariant-loop : goal.invariant-loop
invariant-loop l =
    with_front l.waits.items (repeat_at (wait_format l.harts).read (l.count - l.counter) l.rest) ≡ repeat_at (wait_format l.harts).read l.count l.bytes
