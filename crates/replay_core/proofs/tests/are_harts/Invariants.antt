use Rattle.std.proofs.Common.{◌≡◌, ℕ, ◌<◌, Some, length, slice_get}
use Rattle.replay_core.proofs.tests.are_harts.Given as goal

abbrev pub invariant-loop-hart : goal.invariant-loop-hart
invariant-loop-hart l = (k h : ℕ) → k < l.hart-index → slice_get l.list k ≡ Some h → h < length l.log.streams
