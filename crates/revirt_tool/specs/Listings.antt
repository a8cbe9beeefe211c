-- What `inspect` prints, and how it ends (docs/listing.md).
use Rattle.std.specs.Prelude.{ℕ, ◌≡◌, ◌++◌, Bool, true, false, List, IsTrue, Result, Ok, Err}
use Rattle.outside.specs.Seen.{SeenShelf}
use Rattle.log_entry.specs.declared.log.Log.{Log}
use Rattle.log_entry.specs.Range.{in_range}
use Rattle.log_format.specs.Grammar.{spelling, reading}
use Rattle.log_entry.specs.Room.{log_without_room}
use Rattle.log_inspect.specs.Listing.{listing}
use Rattle.log_inspect.specs.Totals.{totals}
use Rattle.log_inspect.specs.Table.{hand_over_lines}
use Rattle.order_rules.specs.Orderly.{IsOrderly, IsLeastBreak}
use Rattle.revirt_tool.specs.Lines.{orderly_line, disorderly_line}
use Rattle.revirt_tool.specs.Files.{IsFetched, IsUntouched, FailsToFetch, IsTooLong}
use Rattle.revirt_tool.specs.declared.ending.File.TheVariants as files
use Rattle.revirt_tool.specs.declared.ending.Ending.{Ending}
use Rattle.revirt_tool.specs.declared.ending.Ending.TheVariants.{TooLong, Malformed, NoMemory, ShelfFault, Listed}

-- the line tells the least rule that the log breaks
pub record TellsBreak (log : Log) (line : List ℕ) : Type 0 where
  pub rule : ℕ
  pub hart : ℕ
  pub entry : ℕ
  pub breaks : IsLeastBreak log rule hart entry
  pub told : line ≡ disorderly_line rule hart entry

-- the line tells that the log is orderly, or else what it breaks
abbrev pub Judges : Log → List ℕ → Bool → Type 0
Judges log line true = IsOrderly log × (line ≡ orderly_line)
Judges log line false = TellsBreak log line

-- the listing: the head and the entries, the pages, the hand-overs, and the judgement
pub record IsListing (log : Log) (text : List ℕ) (orderly : Bool) : Type 0 where
  pub line : List ℕ
  pub judged : Judges log line orderly
  pub lines : text ≡ listing log ++ (totals log ++ hand_over_lines log) ++ line

-- the file of this name was fetched, and spells this log
pub record IsLogOf (name : List ℕ) (s : SeenShelf) (log : Log) : Type 0 where
  pub file : List ℕ
  pub fetched : IsFetched files.Log name s file
  pub range : IsTrue (in_range log)
  pub spelled : file ≡ spelling log
  pub read : reading file ≡ Ok (log_without_room log)

-- the file of this name was fetched, and spells no log: its first bad field, and the rule that it breaks
pub record IsMalformed (name : List ℕ) (s : SeenShelf) (offset rule : ℕ) : Type 0 where
  pub file : List ℕ
  pub fetched : IsFetched files.Log name s file
  pub bad : reading file ≡ Err (offset, rule)

-- what fetching and reading a log comes to
abbrev pub LogAs : List ℕ → SeenShelf → SeenShelf → Result Log Ending → Type 0
LogAs name s t (Ok log) = IsUntouched s t × IsLogOf name s log
LogAs name s t (Err (TooLong files.Log)) = IsTooLong files.Log name s t
LogAs name s t (Err (Malformed offset rule)) = IsMalformed name s offset rule × IsUntouched s t
LogAs name s t (Err NoMemory) = IsUntouched s t
LogAs name s t (Err ShelfFault) = FailsToFetch s t
LogAs name s t (Err ending) = ⊥

-- a listing with this text, or no memory for it
abbrev pub IsListedAs : List ℕ → Bool → Ending → Type 0
IsListedAs text orderly (Listed listing told) = (listing.items ≡ text) × (told ≡ orderly)
IsListedAs text orderly NoMemory = Unit {0}
IsListedAs text orderly ending = ⊥

-- what listing a log comes to
abbrev pub ListsAs : Log → Ending → Type 0
ListsAs log (Listed text orderly) = IsListing log text.items orderly
ListsAs log NoMemory = Unit {0}
ListsAs log ending = ⊥

-- how the command ends
abbrev pub InspectsAs : List ℕ → SeenShelf → SeenShelf → Ending → Type 0
InspectsAs name s t (TooLong files.Log) = IsTooLong files.Log name s t
InspectsAs name s t (Malformed offset rule) = IsMalformed name s offset rule × IsUntouched s t
InspectsAs name s t NoMemory = IsUntouched s t
InspectsAs name s t ShelfFault = FailsToFetch s t
InspectsAs name s t (Listed text orderly) = IsUntouched s t × ((log : Log) × IsLogOf name s log × IsListing log text.items orderly)
InspectsAs name s t ending = ⊥
