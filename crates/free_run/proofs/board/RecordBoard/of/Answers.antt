use Rattle.free_run.proofs.ByTurns.{by_no_turns}
use Rattle.free_run.proofs.board.RecordBoard.of.Goals as goal

pub invariant_of-result : goal.invariant_of-result
invariant_of-result g c = (c.harts-harts.ensures.number, by_no_turns c.args.board c.requires)
