use Rattle.std.proofs.Common.{◌≡◌}
use Rattle.replay_core.specs.Standing.{GoesOn, left}
use Rattle.replay_core.specs.Telling.{SameAim, TellsOn}
use Rattle.replay_core.proofs.replaying.Replaying.run_out.Given as goal

abbrev pub invariant-sweeps : goal.invariant-sweeps
invariant-sweeps l = record {
  on : GoesOn l.initial.self l.self;
  log : l.self.board.log ≡ l.initial.self.board.log;
  aim : SameAim l.initial.notes l.notes;
  noted : TellsOn l.initial.self l.self l.initial.notes l.notes;
}

abbrev pub decreases-sweeps : goal.decreases-sweeps
decreases-sweeps l = left l.self
