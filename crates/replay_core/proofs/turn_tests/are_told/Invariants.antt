use Rattle.replay_core.specs.Turns.{AreParts}
use Rattle.replay_core.proofs.turn_tests.are_told.Given as goal

abbrev pub invariant-loop-hart : goal.invariant-loop-hart
invariant-loop-hart l = AreParts l.board l.runs.items
