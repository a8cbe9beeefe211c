-- The words of the command line: a command, its names and numbers, then its options.
use Rattle.std.specs.Prelude.{ℕ, ◌+◌, min, Bool, true, false, not, List, [], ◌∷◌, Some, None, Result, Ok, Err, codes, if◌then◌else◌}
use Rattle.std.specs.Str.{bytes_eq}
use Rattle.command_words.specs.declared.job.Job.{Job}
use Rattle.command_words.specs.declared.job.Job.TheVariants.{Record, Replay, Inspect, Trace, Sample}
use Rattle.command_words.specs.declared.job.Way.TheVariants.{Plain}
use Rattle.command_words.specs.Texts.{is_name, number_in}
use Rattle.command_words.specs.Options.{options, AnOption}
use Rattle.command_words.specs.Tables.{record_option, no_record_option, recording, replay_option, no_replay_option, replaying}

-- Each of these reads the words from a place on, and gives a job, or the place of the first word that can't stand
-- there, or the number of words where one is missing.

-- a name that differs from those before it, and then what `rest` reads
abbrev pub name : List (List ℕ) → ℕ → List (List ℕ) → (List ℕ → List (List ℕ) → Result Job ℕ) → Result Job ℕ
name names place [] rest = Err place
name names place (word ∷ words) rest = if is_name names word then rest word words else Err place

-- a number in its range, and then what `rest` reads
abbrev pub number : ℕ → ℕ → ℕ → List (List ℕ) → (ℕ → List (List ℕ) → Result Job ℕ) → Result Job ℕ
number least greatest place [] rest = Err place
number least greatest place (word ∷ words) rest = elim (number_in least greatest word) [ Some n ↦ rest n words | None ↦ Err place ]

-- no further word
abbrev pub no_more : ℕ → List (List ℕ) → Job → Result Job ℕ
no_more place [] job = Ok job
no_more place (word ∷ words) job = Err place

abbrev pub job_from : {G : Type 0} → (G → Job) → Result G ℕ → Result Job ℕ
job_from job (Ok given) = Ok (job given)
job_from job (Err place) = Err place

-- record IMAGE LOG [options]
abbrev pub record_of : List (List ℕ) → Result Job ℕ
record_of words =
    name [] 1 words (λ image words. name (image ∷ []) 2 words (λ log words.
    job_from recording (options record_option (image ∷ log ∷ []) (AnOption no_record_option) 3 words)))

-- replay IMAGE LOG [options]
abbrev pub replay_of : List (List ℕ) → Result Job ℕ
replay_of words =
    name [] 1 words (λ image words. name (image ∷ []) 2 words (λ log words.
    job_from replaying (options replay_option (image ∷ log ∷ []) (AnOption no_replay_option) 3 words)))

-- inspect LOG
abbrev pub inspect_of : List (List ℕ) → Result Job ℕ
inspect_of words = name [] 1 words (λ log words. no_more 2 words (Inspect 1))

-- the greatest TO of a FROM: a trace has at most 1,000,000 moves, and no hart makes more than 10^12
abbrev pub last_to : ℕ → ℕ
last_to from = min (from + 1000000) 1000000000000

-- HART FROM TO
abbrev pub moves_of : List (List ℕ) → Result Job ℕ
moves_of words =
    number 0 7 3 words (λ hart words. number 0 1000000000000 4 words (λ from words.
    number from (last_to from) 5 words (λ to words. no_more 6 words (Trace 1 2 hart from to))))

-- trace IMAGE LOG HART FROM TO
abbrev pub trace_of : List (List ℕ) → Result Job ℕ
trace_of words = name [] 1 words (λ image words. name (image ∷ []) 2 words (λ log words. moves_of words))

-- sample NUMBER
abbrev pub sample_of : List (List ℕ) → Result Job ℕ
sample_of words = number 0 4294967295 1 words (λ n words. no_more 2 words (Sample n))

-- the job of the words, the places of its files being those of their names
abbrev pub job_of : List (List ℕ) → Result Job ℕ
job_of [] = Err 0
job_of (command ∷ words) =
    if bytes_eq command (codes "record") then record_of words
    else if bytes_eq command (codes "replay") then replay_of words
    else if bytes_eq command (codes "inspect") then inspect_of words
    else if bytes_eq command (codes "trace") then trace_of words
    else if bytes_eq command (codes "sample") then sample_of words
    else Err 0

-- whether a job is a free run: a recording without `--rounds`, or a replay without `--rounds` and `--one`
abbrev pub is_free : Job → Bool
is_free (Record image log harts pages limit log_limit dump rounds) = not rounds
is_free (Replay image log dump Plain) = true
is_free job = false

abbrev pub asks_free_run : List (List ℕ) → Bool
asks_free_run words = elim (job_of words) [ Ok job ↦ is_free job | Err place ↦ false ]
