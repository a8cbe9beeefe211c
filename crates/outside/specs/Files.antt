-- Files by their names: a file is its name and the bytes that it holds.
use Rattle.std.specs.Prelude.{◌≡◌, ◌+◌, ◌++◌, ℕ, List, [], ◌∷◌, length, if◌then◌else◌, Option, Some, None, Bool, true, ◌&&◌, is_none}
use Rattle.std.specs.Str.{bytes_eq}

-- what the file of this name holds
abbrev pub lookup : List ℕ → List (List ℕ × List ℕ) → Option (List ℕ)
lookup n [] = None
lookup n (f ∷ fs) = if bytes_eq f.0 n then Some f.1 else lookup n fs

-- the files of other names
abbrev pub without : List ℕ → List (List ℕ × List ℕ) → List (List ℕ × List ℕ)
without n [] = []
without n (f ∷ fs) = if bytes_eq f.0 n then without n fs else f ∷ without n fs

-- the files with this one last, in the place of the one of its name
abbrev pub replaced : List ℕ → List ℕ → List (List ℕ × List ℕ) → List (List ℕ × List ℕ)
replaced name bytes fs = without name fs ++ (name, bytes) ∷ []

-- the bytes of the names and of what they hold
abbrev pub total : List (List ℕ × List ℕ) → ℕ
total [] = 0
total (f ∷ fs) = length f.0 + length f.1 + total fs

-- no name stands twice
abbrev pub AreApart : List (List ℕ × List ℕ) → Type 0
AreApart [] = Unit {0}
AreApart (f ∷ fs) = (lookup f.0 fs ≡ None) × AreApart fs

-- the same as a test
abbrev pub are_apart : List (List ℕ × List ℕ) → Bool
are_apart [] = true
are_apart (f ∷ fs) = is_none (lookup f.0 fs) && are_apart fs
