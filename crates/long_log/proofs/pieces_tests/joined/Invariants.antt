use Rattle.std.proofs.Common.{length}
use Rattle.log_format.specs.Given.{IsAt, pieces_left}
use Rattle.long_log.proofs.pieces_tests.joined.Given as goal

abbrev pub invariant-loop-piece : goal.invariant-loop-piece
invariant-loop-piece l = IsAt l.pieces l.log

abbrev pub decreases-loop-piece : goal.decreases-loop-piece
decreases-loop-piece l = length (pieces_left l.pieces l.log)
