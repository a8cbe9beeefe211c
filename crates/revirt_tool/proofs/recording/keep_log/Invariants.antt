use Rattle.std.proofs.Common.{◌≡◌, ◌++◌, ℕ, List, true, length}
use Rattle.std.specs.List.{concat}
use Rattle.log_format.specs.Grammar.{spelling}
use Rattle.log_format.specs.Given.{IsAt, pieces_left}
use Rattle.outside.specs.Seen.{ToldBefore, Drafts, OthersHold}
use Rattle.revirt_tool.proofs.recording.keep_log.Given as goal

abbrev pub invariant-loop-piece : goal.invariant-loop-piece
invariant-loop-piece g l = let s = g.S.Shelf in record {
  at : IsAt l.pieces l.log;
  tells : ToldBefore (s.seen l.fn.shelf).tells (s.seen l.shelf).tells;
  writing : (s.seen l.shelf).writing ≡ true;
  draft : (bytes : List ℕ) × Drafts (s.seen l.shelf) l.name bytes × (bytes ++ concat (pieces_left l.pieces l.log) ≡ spelling l.log);
  others : OthersHold l.name (s.seen l.fn.shelf) (s.seen l.shelf);
  faults : (s.seen l.shelf).faults ≡ (s.seen l.fn.shelf).faults;
}

abbrev pub decreases-loop-piece : goal.decreases-loop-piece
decreases-loop-piece g l = length (pieces_left l.pieces l.log)
