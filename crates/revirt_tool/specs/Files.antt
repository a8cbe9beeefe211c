-- The files that a command fetches, and what comes of it.
use Rattle.std.specs.Prelude.{ℕ, ◌≡◌, ◌≤◌, List, length, Some, IsTrue, Result, Ok, Err}
use Rattle.rv_words.specs.Limits.{longest_log}
use Rattle.outside.specs.Fetching.{IsPast}
use Rattle.outside.specs.Causes.{Rose}
use Rattle.outside.specs.Seen.{SeenShelf, HoldsAsBefore, HoldsMore}
use Rattle.revirt_tool.specs.declared.ending.File.{File}
use Rattle.revirt_tool.specs.declared.ending.File.TheVariants.{Image, Log}
use Rattle.revirt_tool.specs.declared.ending.Ending.{Ending}
use Rattle.revirt_tool.specs.declared.ending.Ending.TheVariants.{TooLong, NoMemory, ShelfFault}

-- the most bytes of a file
abbrev pub longest : File → ℕ
longest Image = 67108864
longest Log = longest_log

-- the file that was fetched from the shelf s, which held it under its name, where the shelf t tells: a fetch may be the end of what a
-- shelf tells, so of a file that is fetched after another one it is known where the shelf tells afterwards
pub record WasFetched (of : File) (name : List ℕ) (s t : SeenShelf) (file : List ℕ) : Type 0 where
  pub held : IsTrue t.tells → s.held name ≡ Some file
  pub within : length file ≤ longest of

-- and of the first file where it tells before
abbrev pub IsFetched : File → List ℕ → SeenShelf → List ℕ → Type 0
IsFetched of name s file = WasFetched of name s s file

-- nothing was kept: each name holds what it held, and no call failed
pub record IsUntouched (s t : SeenShelf) : Type 0 where
  pub held : HoldsAsBefore s t
  pub faults : t.faults ≡ s.faults

-- the fetch failed, and nothing was kept
pub record FailsToFetch (s t : SeenShelf) : Type 0 where
  pub rose : Rose s.faults t.faults
  pub held : HoldsAsBefore s t

-- the file of this name is longer than it may be, and nothing was kept
abbrev pub IsTooLong : File → List ℕ → SeenShelf → SeenShelf → Type 0
IsTooLong of name s t = HoldsMore s name (longest of) × IsUntouched s t

-- the same of a file that is fetched after another one
abbrev pub WasTooLong : File → List ℕ → SeenShelf → SeenShelf → Type 0
WasTooLong of name s t = (IsTrue t.tells → IsPast (longest of) (s.held name)) × IsUntouched s t

-- what fetching a file comes to
abbrev pub FileAs : {B : Type 0} → (B → List ℕ) → File → List ℕ → SeenShelf → SeenShelf → Result B Ending → Type 0
FileAs bytes of name s t (Ok file) = IsUntouched s t × IsFetched of name s (bytes file)
FileAs bytes of name s t (Err (TooLong which)) = (which ≡ of) × IsTooLong of name s t
FileAs bytes of name s t (Err NoMemory) = IsUntouched s t
FileAs bytes of name s t (Err ShelfFault) = FailsToFetch s t
FileAs bytes of name s t (Err ending) = ⊥
