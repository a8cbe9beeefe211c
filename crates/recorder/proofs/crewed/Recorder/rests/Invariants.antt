use Rattle.std.proofs.Common.{map}
use Rattle.orders_law.specs.Orders.{below}
use Rattle.recorder.specs.Listed.{TakesRows}
use Rattle.recorder.proofs.crewed.Recorder.rests.Given as goal

abbrev pub invariant-loop-hart : goal.invariant-loop-hart
invariant-loop-hart g l = TakesRows (map (λ k. (k, 0)) (below l.hart)) l.initial.self.board l.self.board l.self.runs.items l.self.orders
