use Rattle.std.proofs.Common.{◌≡◌, map}
use Rattle.orders_law.specs.Orders.{below}
use Rattle.run_model.specs.Run.{run_at_start}
use Rattle.board_backing.proofs.runs.first_runs.Given as goal

abbrev pub invariant-loop-hart : goal.invariant-loop-hart
invariant-loop-hart l = l.runs.items ≡ map (λ h. run_at_start h l.harts l.image) (below l.hart)
