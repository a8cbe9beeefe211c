-- Parts packed into pieces, and that the pieces of a log are its bytes.
use Rattle.std.specs.Prelude.{ℕ, ◌+◌, ◌≤◌, ◌<◌, ◌≡◌, List, [], ◌∷◌, ◌++◌, length, Bool, true, false, nat_le, if◌then◌else◌, All, IsTrue}
use Rattle.std.specs.List.{concat}
use Rattle.log_entry.specs.declared.log.Log.{Log}
use Rattle.log_entry.specs.Range.{in_range}
use Rattle.log_format.specs.Grammar.{spelling}
use Rattle.log_format.specs.Parts.{head_bytes, parts_of}

-- the most bytes of a piece
abbrev pub piece_bytes : ℕ
piece_bytes = 65536

-- a piece that was begun, and those behind it: a part goes to the piece before, where it fits there, and else to a new one
abbrev pub packed_behind : ℕ → List ℕ → List (List ℕ) → List (List ℕ)
packed_behind most piece [] = piece ∷ []
packed_behind most piece (part ∷ parts) =
    if nat_le (length piece + length part) most then packed_behind most (piece ++ part) parts
    else piece ∷ packed_behind most part parts

-- the parts in pieces: each has as many whole parts as fit, at least one
abbrev pub packed : ℕ → List (List ℕ) → List (List ℕ)
packed most [] = []
packed most (part ∷ parts) = packed_behind most part parts

-- the pieces of a log: the head, and its other parts in pieces
abbrev pub pieces_of : Log → List (List ℕ)
pieces_of log = head_bytes log ∷ packed piece_bytes (parts_of log)

-- ---- the law

pub record ArePieces : Type 0 where
  -- one after the other they are the log's spelling
  pub joined : (log : Log) → concat (pieces_of log) ≡ spelling log
  -- each has a byte
  pub some : (log : Log) → All (λ piece. 0 < length piece) (pieces_of log)
  -- and no more than a buffer holds, where the log is in range and has the 32 bytes of a start digest
  pub short : (log : Log) → IsTrue (in_range log) → length log.image ≡ 32 → All (λ piece. length piece ≤ piece_bytes) (pieces_of log)

-- ---- what code says of one part

-- the part was put behind the bytes, where that is no more than a piece
abbrev pub Puts : List ℕ → List ℕ → Bool → List ℕ → Type 0
Puts part bytes true new = (new ≡ bytes ++ part) × (length bytes + length part ≤ piece_bytes)
Puts part bytes false new = (new ≡ bytes) × (piece_bytes < length bytes + length part)

-- no part is left that fits behind the bytes
abbrev pub IsFull : List ℕ → List (List ℕ) → Type 0
IsFull bytes [] = Unit {0}
IsFull bytes (part ∷ parts) = piece_bytes < length bytes + length part

-- the first of the parts left was put behind the bytes; or nothing was, where no part is left that fits
abbrev pub Adds : List ℕ → List (List ℕ) → Bool → List ℕ → List (List ℕ) → Type 0
Adds bytes parts true new left = (part : List ℕ) × (parts ≡ part ∷ left) × (new ≡ bytes ++ part) × (length bytes + length part ≤ piece_bytes)
Adds bytes parts false new left = (new ≡ bytes) × (left ≡ parts) × IsFull bytes parts
