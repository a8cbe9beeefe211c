use Rattle.round_run.specs.Rounds.{TakesRounds, rounds_in}
use Rattle.round_run.proofs.rounds.Rounds.rounds.Given as goal

abbrev pub invariant-loop-alloc : goal.invariant-loop-alloc
invariant-loop-alloc g l =
    TakesRounds l.number l.initial.self.recording.board l.self.recording.board l.self.recording.runs.items l.self.recording.orders l.self.stood

abbrev pub decreases-loop-alloc : goal.decreases-loop-alloc
decreases-loop-alloc g l = rounds_in l.self.recording.board
