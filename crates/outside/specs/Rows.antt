-- How files stand behind one another in one text, and how heads tell where each begins.
use Rattle.std.specs.Prelude.{◌≡◌, ◌+◌, ◌-◌, ◌≤◌, ◌==◌, ◌||◌, ℕ, List, [], ◌∷◌, ◌++◌, take, drop, length, Bool, Some, if◌then◌else◌}
use Rattle.outside.specs.declared.heads.Head.{Head}
use Rattle.outside.specs.declared.heads.Row.{Row}
use Rattle.outside.specs.Files.{lookup}

-- the next head goes on with the same row
abbrev pub goes_on : Head → Bool
goes_on h = h.name == 255 || h.bytes == 255

-- the rows that these heads tell, where those before them told a part of the first one
abbrev pub rows_after : ℕ → ℕ → List Head → List Row
rows_after name bytes [] = []
rows_after name bytes (h ∷ hs) =
    if goes_on h then rows_after (name + h.name) (bytes + h.bytes) hs
    else record { name = name + h.name; bytes = bytes + h.bytes } ∷ rows_after 0 0 hs

abbrev pub rows : List Head → List Row
rows hs = rows_after 0 0 hs

-- no row is left open at the end
abbrev pub IsClosed : List Head → Type 0
IsClosed hs = rows (hs ++ record { name = 0; bytes = 0 } ∷ []) ≡ rows hs ++ record { name = 0; bytes = 0 } ∷ []

-- the bytes of these files: the name of the first, what it holds, and so on
abbrev pub sizes : List Row → ℕ
sizes [] = 0
sizes (r ∷ rs) = r.name + r.bytes + sizes rs

-- the files that stand behind one another in this text, each with its name
abbrev pub files : List Row → List ℕ → List (List ℕ × List ℕ)
files [] text = []
files (r ∷ rs) text = (take r.name text, take r.bytes (drop r.name text)) ∷ files rs (drop (r.name + r.bytes) text)

-- the heads from one place up to another tell this row
pub record IsRow (heads : List Head) (from to : ℕ) (row : Row) : Type 0 where
  pub order : from + 1 ≤ to
  pub within : to ≤ length heads
  pub opens : (more : List Head) → rows (take (to - from) (drop from heads) ++ more) ≡ row ∷ rows more

-- the file of this name begins at this place of the text, and has the row of these heads
pub record IsPlace (name : List ℕ) (heads : List Head) (text : List ℕ) (from to at : ℕ) (row : Row) : Type 0 where
  pub here : IsRow heads from to row
  pub closed : (more : List Head) → rows (take from heads ++ more) ≡ rows (take from heads) ++ rows more
  pub before : at ≡ sizes (rows (take from heads))
  pub fits : at + (row.name + row.bytes) ≤ length text
  pub named : take row.name (drop at text) ≡ name
  pub found : lookup name (files (rows heads) text) ≡ Some (take row.bytes (drop row.name (drop at text)))
