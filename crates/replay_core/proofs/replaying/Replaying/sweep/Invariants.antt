use Rattle.std.proofs.Common.{◌≡◌, ℕ, ◌<◌, false}
use Rattle.replay_core.specs.Standing.{GoesOn, HasGone, HasNoItem}
use Rattle.replay_core.specs.Telling.{SameAim, TellsOn}
use Rattle.replay_core.proofs.replaying.Replaying.sweep.Given as goal

abbrev pub invariant-loop-hart : goal.invariant-loop-hart
invariant-loop-hart l = record {
  on : GoesOn l.initial.self l.self;
  log : l.self.board.log ≡ l.initial.self.board.log;
  gone : HasGone l.went l.initial.self l.self;
  stuck : l.went ≡ false → (h : ℕ) → h < l.hart → HasNoItem l.self h;
  aim : SameAim l.initial.notes l.notes;
  noted : TellsOn l.initial.self l.self l.initial.notes l.notes;
}
