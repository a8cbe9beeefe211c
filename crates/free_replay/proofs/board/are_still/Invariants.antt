use Rattle.std.proofs.Common.{◌≡◌, ℕ, ◌<◌, true}
use Rattle.free_replay.specs.ReplayTurns.{is_still}
use Rattle.free_replay.proofs.board.are_still.Given as goal

abbrev pub invariant-loop-hart : goal.invariant-loop-hart
invariant-loop-hart l = (h : ℕ) → h < l.hart → is_still l.still h ≡ true
