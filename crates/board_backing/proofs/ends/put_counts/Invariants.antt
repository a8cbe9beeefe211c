use Rattle.std.proofs.Common.{◌≡◌, ℕ, ◌<◌, Some, slice_get}
use Rattle.run_model.specs.Run.{Run}
use Rattle.board_backing.proofs.ends.put_counts.Given as goal

-- the places so far are filled
abbrev pub invariant-loop-hart : goal.invariant-loop-hart
invariant-loop-hart l = (k : ℕ) (r : Run) → k < l.hart → slice_get l.runs k ≡ Some r → slice_get l.counts k ≡ Some r.count
