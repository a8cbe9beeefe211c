-- The options of each command, with the range of a number and the default of one that isn't given.
use Rattle.std.specs.Prelude.{ℕ, true, false, List, Option, Some, None, is_some, codes, if◌then◌else◌}
use Rattle.std.specs.Str.{bytes_eq}
use Rattle.command_words.specs.declared.job.Job.{Job}
use Rattle.command_words.specs.declared.job.Job.TheVariants.{Record, Replay}
use Rattle.command_words.specs.declared.job.Way.{Way}
use Rattle.command_words.specs.declared.job.Way.TheVariants.{Plain, One, Rounds}
use Rattle.command_words.specs.declared.record.RecordOptions.{RecordOptions}
use Rattle.command_words.specs.declared.replay.ReplayOptions.{ReplayOptions}
use Rattle.command_words.specs.Options.{Next, AnOption, ANumber, AName, once}

-- `record`: [--harts N] [--pages N] [--limit N] [--log-limit N] [--dump FILE] [--rounds]
abbrev pub record_option : RecordOptions → List ℕ → Option (Next RecordOptions)
record_option given word =
    if bytes_eq word (codes "--harts") then once (is_some given.harts) (ANumber 1 8 (λ n. record given { harts = Some n }))
    else if bytes_eq word (codes "--pages") then once (is_some given.pages) (ANumber 1 4096 (λ n. record given { pages = Some n }))
    else if bytes_eq word (codes "--limit") then once (is_some given.limit) (ANumber 0 1000000000000 (λ n. record given { limit = Some n }))
    else if bytes_eq word (codes "--log-limit") then once (is_some given.log_limit) (ANumber 1024 536870912 (λ n. record given { log_limit = Some n }))
    else if bytes_eq word (codes "--dump") then once (is_some given.dump) (AName (λ place. record given { dump = Some place }))
    else if bytes_eq word (codes "--rounds") then once given.rounds (AnOption (record given { rounds = true }))
    else None

abbrev pub no_record_option : RecordOptions
no_record_option = record { harts = None; pages = None; limit = None; log_limit = None; dump = None; rounds = false }

abbrev pub or_else : ℕ → Option ℕ → ℕ
or_else n None = n
or_else n (Some m) = m

-- the job of `record IMAGE LOG` with these options
abbrev pub recording : RecordOptions → Job
recording given =
    Record 1 2 (or_else 1 given.harts) (or_else 4096 given.pages) (or_else 10000000 given.limit) (or_else 67108864 given.log_limit) given.dump given.rounds

-- `replay`: [--dump FILE] [--one | --rounds]
abbrev pub replay_option : ReplayOptions → List ℕ → Option (Next ReplayOptions)
replay_option given word =
    if bytes_eq word (codes "--dump") then once (is_some given.dump) (AName (λ place. record given { dump = Some place }))
    else if bytes_eq word (codes "--one") then once (is_some given.way) (AnOption (record given { way = Some One }))
    else if bytes_eq word (codes "--rounds") then once (is_some given.way) (AnOption (record given { way = Some Rounds }))
    else None

abbrev pub no_replay_option : ReplayOptions
no_replay_option = record { dump = None; way = None }

abbrev pub or_plain : Option Way → Way
or_plain None = Plain
or_plain (Some way) = way

-- the job of `replay IMAGE LOG` with these options
abbrev pub replaying : ReplayOptions → Job
replaying given = Replay 1 2 given.dump (or_plain given.way)
