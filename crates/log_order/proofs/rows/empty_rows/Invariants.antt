use Rattle.std.proofs.Common.{◌≡◌, None, map, take, replicate}
use Rattle.log_order.proofs.rows.empty_rows.Given as goal

abbrev pub invariant-loop-size : goal.invariant-loop-size
invariant-loop-size l = l.rows.items ≡ map (λ size. replicate size None) (take l.size-index l.sizes)
