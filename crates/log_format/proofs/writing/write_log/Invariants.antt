use Rattle.std.proofs.Common.{◌≡◌, ◌++◌, length}
use Rattle.std.specs.List.{concat}
use Rattle.log_format.specs.Grammar.{spelling}
use Rattle.log_format.specs.Given.{IsAt, pieces_left}
use Rattle.log_format.proofs.writing.write_log.Given as goal

abbrev pub invariant-loop-piece : goal.invariant-loop-piece
invariant-loop-piece l = record {
  at : IsAt l.pieces l.l;
  bytes : l.out.items ++ concat (pieces_left l.pieces l.l) ≡ spelling l.l;
}

abbrev pub decreases-loop-piece : goal.decreases-loop-piece
decreases-loop-piece l = length (pieces_left l.pieces l.l)
