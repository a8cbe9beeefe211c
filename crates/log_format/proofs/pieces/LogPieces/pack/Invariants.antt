use Rattle.std.proofs.Common.{◌≡◌, length}
use Rattle.log_format.specs.Pieces.{packed, packed_behind, piece_bytes}
use Rattle.log_format.specs.Given.{IsAt, parts_at}
use Rattle.log_format.proofs.pieces.LogPieces.pack.Given as goal

abbrev pub invariant-loop : goal.invariant-loop
invariant-loop l = record {
  at : IsAt l.self l.l;
  begun : l.self.begun ≡ l.initial.self.begun;
  pieces : packed piece_bytes (parts_at l.fn.self.place l.l) ≡ packed_behind piece_bytes l.self.buffer (parts_at l.self.place l.l);
}

abbrev pub decreases-loop : goal.decreases-loop
decreases-loop l = length (parts_at l.self.place l.l)
