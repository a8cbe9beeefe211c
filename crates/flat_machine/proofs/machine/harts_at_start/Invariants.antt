use Rattle.std.proofs.Common.{◌≡◌, map}
use Rattle.std.specs.List.{range_with_len}
use Rattle.rv_hart.specs.Moves.{hart_at_start}
use Rattle.flat_machine.proofs.machine.harts_at_start.Given as goal

abbrev pub invariant-loop-id : goal.invariant-loop-id
invariant-loop-id l = l.list.items ≡ map (λ id. hart_at_start id l.harts l.pages l.entry) (range_with_len 0 l.id)
