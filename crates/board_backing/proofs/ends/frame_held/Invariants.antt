use Rattle.std.proofs.Common.{◌≡◌, ℕ, ◌<◌, Some, None, slice_get}
use Rattle.run_model.specs.Run.{Run, hold_of}
use Rattle.board_backing.proofs.ends.frame_held.Given as goal

-- none of the runs so far holds the page
abbrev pub invariant-loop-hart : goal.invariant-loop-hart
invariant-loop-hart l = (k : ℕ) (r : Run) → k < l.hart → slice_get l.runs k ≡ Some r → hold_of r l.page ≡ None
