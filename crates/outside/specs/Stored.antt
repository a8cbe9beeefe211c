-- How a shelf in memory is stored.
use Rattle.std.specs.Prelude.{◌≡◌, ◌+◌, ◌≤◌, ℕ, List, length, Bool}
use Rattle.outside.specs.declared.stored.Folder.{Folder}
use Rattle.outside.specs.Files.{total}
use Rattle.outside.specs.Rows.{files, rows}
use Rattle.outside.specs.Sinks.{TrayState}
use Rattle.outside.specs.Shelves.{draft_of, draft_size}

-- the files of a folder
abbrev pub contents : Folder → List (List ℕ × List ℕ)
contents f = files (rows f.heads.items) f.text.items

-- files and draft have room together, and nothing is kept of a draft that ended
pub record IsStored (folder : Folder) (writing : Bool) (name bytes : TrayState) : Type 0 where
  pub fits : total (contents folder) + (length name.bytes + length bytes.bytes) ≤ folder.room
  pub size : length name.bytes + length bytes.bytes ≡ draft_size (draft_of writing name.bytes bytes.bytes)
  pub name_room : name.room ≡ folder.room
  pub draft_room : bytes.room ≡ folder.room
