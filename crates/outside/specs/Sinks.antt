-- What contracts see of the sink in memory.
use Rattle.std.specs.Prelude.{ℕ, ◌+◌, List, length, nat_le, Bool, true, not, ◌&&◌}
use Rattle.outside.specs.Numbered.{Numbered, fails_next}
use Rattle.outside.specs.Seen.{SeenSink}

-- bytes in memory, and for how many there is room
pub record TrayState : Type 0 where
  pub bytes : List ℕ
  pub room : ℕ

-- a sink in memory: the bytes written, for how many there is room, and its numbered calls
pub record MemSinkState : Type 0 where
  pub written : List ℕ
  pub room : ℕ
  pub calls : Numbered

-- its next call, where it puts these bytes, is done
abbrev pub writes : MemSinkState → List ℕ → Bool
writes s bytes = not (fails_next s.calls) && nat_le (length s.written + length bytes) s.room

-- it tells all that is seen of a sink
abbrev pub seen_of_sink : MemSinkState → SeenSink
seen_of_sink s = record { tells = true; written = s.written; faults = s.calls.faults }
