-- What contracts see of the shelves in memory.
use Rattle.std.specs.Prelude.{◌+◌, ◌++◌, ◌≤◌, ◌&&◌, ℕ, List, [], length, nat_le, Bool, true, not, if◌then◌else◌, Option, Some, None, is_some}
use Rattle.outside.specs.Files.{lookup, without, replaced, total}
use Rattle.outside.specs.Numbered.{Numbered, calls_at_start, fails_next}
use Rattle.outside.specs.Seen.{SeenShelf}

-- a shelf in memory: its files, the name and the bytes being written where something is, its room in bytes, and its numbered calls
pub record MemShelfState : Type 0 where
  pub files : List (List ℕ × List ℕ)
  pub draft : Option (List ℕ × List ℕ)
  pub room : ℕ
  pub calls : Numbered

-- the files of a shelf that never fails, whether something is being written on it, and its room in bytes
pub record SureShelfState : Type 0 where
  pub files : List (List ℕ × List ℕ)
  pub writing : Bool
  pub room : ℕ

abbrev pub mem_shelf_at_start : ℕ → List ℕ → MemShelfState
mem_shelf_at_start room fails = record { files = []; draft = None; room = room; calls = calls_at_start fails }

-- the bytes of the name and of what is being written
abbrev pub draft_size : Option (List ℕ × List ℕ) → ℕ
draft_size None = 0
draft_size (Some d) = length d.0 + length d.1

-- the bytes that count against the room
abbrev pub used : MemShelfState → ℕ
used s = total s.files + draft_size s.draft

-- the files, with this one in the place of that of its name where it was put there
abbrev pub files_with : Bool → List ℕ → List ℕ → List (List ℕ × List ℕ) → List (List ℕ × List ℕ)
files_with put name bytes files = if put then replaced name bytes files else files

-- there is room for these bytes under this name
abbrev pub HasRoomFor : MemShelfState → List ℕ → List ℕ → Type 0
HasRoomFor s name bytes = total (without name s.files) + draft_size s.draft + (length name + length bytes) ≤ s.room

-- the next call, where it begins to write under this name, is done
abbrev pub begins : MemShelfState → List ℕ → Bool
begins s name = not (fails_next s.calls) && nat_le (total (without name s.files) + length name) s.room

-- the next call, where it puts these bytes behind those being written, is done
abbrev pub appends : MemShelfState → List ℕ → Bool
appends s bytes = not (fails_next s.calls) && nat_le (used s + length bytes) s.room

-- it tells all that is seen of a shelf
abbrev pub seen_of_shelf : MemShelfState → SeenShelf
seen_of_shelf s =
    record { tells = true; held = λ n. lookup n s.files; draft = s.draft; writing = is_some s.draft; faults = s.calls.faults }

-- the draft with these bytes behind it
abbrev pub appended : Option (List ℕ × List ℕ) → List ℕ → Option (List ℕ × List ℕ)
appended None bytes = None
appended (Some d) bytes = Some (d.0, d.1 ++ bytes)

-- the name and the bytes being written, where something is
abbrev pub draft_of : Bool → List ℕ → List ℕ → Option (List ℕ × List ℕ)
draft_of writing name bytes = if writing then Some (name, bytes) else None
