-- What holds of each job that words ask for.
use Rattle.std.specs.Prelude.{ℕ, ◌≢◌, ◌+◌, ◌<◌, ◌≤◌, List, Option, Some, None}
use Rattle.command_words.specs.Texts.{word_at}
use Rattle.command_words.specs.declared.job.Job.{Job}
use Rattle.command_words.specs.declared.job.Job.TheVariants.{Record, Replay, Inspect, Trace, Sample}
use Rattle.command_words.specs.declared.record.RecordOptions.{RecordOptions}

abbrev pub IsWithin : ℕ → ℕ → Option ℕ → Type 0
IsWithin least greatest None = Unit {0}
IsWithin least greatest (Some n) = (least ≤ n) × (n ≤ greatest)

abbrev pub IsBelow : ℕ → Option ℕ → Type 0
IsBelow count None = Unit {0}
IsBelow count (Some place) = place < count

abbrev pub AreInRange : RecordOptions → Type 0
AreInRange given =
    IsWithin 1 8 given.harts × IsWithin 1 4096 given.pages × IsWithin 0 1000000000000 given.limit
    × IsWithin 1024 536870912 given.log_limit

-- the files of a job are among so many words
abbrev pub ArePlaces : ℕ → Job → Type 0
ArePlaces count (Record image log harts pages limit log_limit dump rounds) = (image < count) × (log < count) × IsBelow count dump
ArePlaces count (Replay image log dump way) = (image < count) × (log < count) × IsBelow count dump
ArePlaces count (Inspect log) = log < count
ArePlaces count (Trace image log hart from to) = (image < count) × (log < count)
ArePlaces count (Sample n) = Unit {0}

-- the numbers of a job are in their ranges
abbrev pub IsInRange : Job → Type 0
IsInRange (Record image log harts pages limit log_limit dump rounds) =
    IsWithin 1 8 (Some harts) × IsWithin 1 4096 (Some pages) × (limit ≤ 1000000000000) × IsWithin 1024 536870912 (Some log_limit)
IsInRange (Trace image log hart from to) = (hart < 8) × (from ≤ to) × (to ≤ from + 1000000) × (to ≤ 1000000000000)
IsInRange _ = Unit {0}

-- where the first place is given, the word there differs from the one at the second
abbrev pub IsOther : List (List ℕ) → Option ℕ → ℕ → Type 0
IsOther words None other = Unit {0}
IsOther words (Some place) other = word_at words place ≢ word_at words other

-- the dump of a job of these words has another name than its log
abbrev pub KeepsApart : List (List ℕ) → Job → Type 0
KeepsApart words (Record image log harts pages limit log_limit dump rounds) = IsOther words dump log
KeepsApart words (Replay image log dump way) = IsOther words dump log
KeepsApart words _ = Unit {0}

-- neither the log nor the dump of a job of these words has the name of its image
abbrev pub SparesImage : List (List ℕ) → Job → Type 0
SparesImage words (Record image log harts pages limit log_limit dump rounds) = IsOther words (Some log) image × IsOther words dump image
SparesImage words (Replay image log dump way) = IsOther words (Some log) image × IsOther words dump image
SparesImage words (Trace image log hart from to) = IsOther words (Some log) image
SparesImage words _ = Unit {0}
