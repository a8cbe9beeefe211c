-- The bytes of entries and of logs are as many as their sizes say.
use Rattle.std.specs.Prelude.{ℕ, ◌≡◌, List, [], ◌∷◌, map, length}
use Rattle.log_entry.specs.declared.log.Entry.{Entry}
use Rattle.log_entry.specs.declared.log.Entry.TheVariants.{End}
use Rattle.log_entry.specs.declared.log.Log.{Log}
use Rattle.log_entry.specs.Parts.{unit_of}
use Rattle.log_entry.specs.Size.{size_in, size_of_log, frame_size}
use Rattle.log_format.specs.Grammar.{entry_format, spelling}

pub record HaveTheirSizes : Type 0 where
  -- an entry
  pub entry : (unit harts units : ℕ) (entry : Entry) → length ((entry_format harts units).spell entry) ≡ size_in unit harts entry
  -- a log, whose start digest has 32 bytes
  pub log : (log : Log) → length log.image ≡ 32 → length (spelling log) ≡ size_of_log (unit_of log) log.streams
  -- a log whose streams are Ends alone, at these counts
  pub frame : (unit : ℕ) (counts : List ℕ) → size_of_log unit (map (λ count. End count ∷ []) counts) ≡ frame_size unit (length counts)
