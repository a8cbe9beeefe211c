use Rattle.round_run.specs.Replays.{Sweeps, left_in}
use Rattle.round_run.proofs.replays.Replay.settle.Given as goal

abbrev pub invariant-sweeps : goal.invariant-sweeps
invariant-sweeps l = Sweeps l.initial.self.board l.self.board l.initial.self.runs.items l.self.runs.items l.self.untils

abbrev pub decreases-sweeps : goal.decreases-sweeps
decreases-sweeps l = left_in l.self.board
