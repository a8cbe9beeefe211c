-- The pieces of a log that are still to be given, and what a call gives.
use Rattle.std.specs.Prelude.{ℕ, ◌≡◌, ◌<◌, ◌≤◌, List, [], ◌∷◌, ◌+◌, drop, length, Bool, true, false, Option, MatchOption, IsTrue}
use Rattle.std.specs.Borrow.{Bor}
use Rattle.log_entry.specs.declared.log.Entry.{Entry}
use Rattle.log_entry.specs.declared.log.Log.{Log}
use Rattle.log_entry.specs.Range.{in_range}
use Rattle.log_format.specs.declared.pieces.Place.{Place}
use Rattle.log_format.specs.declared.pieces.LogPieces.{LogPieces}
use Rattle.log_format.specs.Parts.{head_bytes, parts_from}
use Rattle.log_format.specs.Pieces.{packed, piece_bytes}

-- a place is at a part of the first stream, at the cause, or behind it
abbrev pub IsWithin : ℕ → List (List Entry) → Type 0
IsWithin next [] = next ≤ 1
IsWithin next (stream ∷ streams) = next ≤ length stream

-- the parts from a place on
abbrev pub parts_at : Place → Log → List (List ℕ)
parts_at place log = parts_from place.next (drop place.hart log.streams) log.cause

-- the place of the part behind, in a stream of so many entries
abbrev pub place_after : Bool → Place → Place
place_after true place = record { hart = place.hart; next = place.next + 1 }
place_after false place = record { hart = place.hart + 1; next = 0 }

-- the pieces go on in this log, which is in range
pub record IsAt (pieces : LogPieces) (log : Log) : Type 0 where
  pub range : IsTrue (in_range log)
  pub place : IsWithin pieces.place.next (drop pieces.place.hart log.streams)

abbrev pub left_from : Bool → Place → Log → List (List ℕ)
left_from false place log = head_bytes log ∷ packed piece_bytes (parts_at place log)
left_from true place log = packed piece_bytes (parts_at place log)

-- the pieces that are still to be given
abbrev pub pieces_left : LogPieces → Log → List (List ℕ)
pieces_left pieces log = left_from pieces.begun pieces.place log

-- the first of the pieces left was given, which fits a buffer; none, where none is left
pub record Gives (old : LogPieces) (log : Log) (result : Option (Bor (List ℕ))) (new : LogPieces) : Type 0 where
  pub piece : MatchOption result (pieces_left old log ≡ []) (λ piece. pieces_left old log ≡ piece.now ∷ pieces_left new log)
  pub none_left : MatchOption result (pieces_left new log ≡ []) (λ _. Unit {0})
  pub some : MatchOption result (Unit {0}) (λ piece. 0 < length piece.now)
  pub short : MatchOption result (Unit {0}) (λ piece. length piece.now ≤ piece_bytes)
  pub at : IsAt new log
