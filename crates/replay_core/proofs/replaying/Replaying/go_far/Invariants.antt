use Rattle.std.proofs.Common.{◌≡◌}
use Rattle.replay_core.specs.Standing.{GoesOn, HasGone, left}
use Rattle.replay_core.specs.Telling.{SameAim, TellsOn}
use Rattle.replay_core.proofs.replaying.Replaying.go_far.Given as goal

abbrev pub invariant-items : goal.invariant-items
invariant-items l = record {
  on : GoesOn l.initial.self l.self;
  log : l.self.board.log ≡ l.initial.self.board.log;
  gone : HasGone l.went l.initial.self l.self;
  aim : SameAim l.initial.notes l.notes;
  noted : TellsOn l.initial.self l.self l.initial.notes l.notes;
}

abbrev pub decreases-items : goal.decreases-items
decreases-items l = left l.self
