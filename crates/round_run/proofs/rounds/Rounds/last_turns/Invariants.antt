use Rattle.round_run.specs.Rounds.{LastTurnsTo}
use Rattle.round_run.proofs.rounds.Rounds.last_turns.Given as goal

abbrev pub invariant-loop-hart : goal.invariant-loop-hart
invariant-loop-hart g l =
    LastTurnsTo l.hart l.initial.self.recording.board l.self.recording.board l.self.recording.runs.items l.self.recording.orders l.self.stood
