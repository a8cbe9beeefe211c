use Rattle.round_run.specs.Replays.{HadTurns}
use Rattle.round_run.proofs.replays.Replay.sweep.Given as goal

abbrev pub invariant-loop-hart : goal.invariant-loop-hart
invariant-loop-hart l =
    HadTurns l.hart l.initial.self.board l.self.board l.initial.self.runs.items l.self.runs.items l.self.untils l.changed
