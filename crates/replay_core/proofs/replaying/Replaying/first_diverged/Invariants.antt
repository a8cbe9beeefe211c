use Rattle.std.proofs.Common.{ℕ, ◌<◌}
use Rattle.replay_core.specs.Standing.{IsSame, IsUndiverged}
use Rattle.replay_core.proofs.replaying.Replaying.first_diverged.Given as goal

-- nothing is changed, and no hart so far has diverged
abbrev pub invariant-loop-hart : goal.invariant-loop-hart
invariant-loop-hart l = record {
  same : IsSame l.initial.self l.self;
  none : (h : ℕ) → h < l.hart → IsUndiverged l.initial.self h;
}
