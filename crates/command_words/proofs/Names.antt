-- The files of a job have names that differ: a name is read only where it differs from those before it.
use Rattle.std.proofs.Common.{◌≡◌, ◌≢◌, ℕ, suc, ◌+◌, Bool, true, false, List, [], ◌∷◌, cond, ◌||◌, Option, Some, None, Result, Ok, Err, option_map}
use Rattle.std.proofs.Common.{unwrap_or, slice_get, is_some, codes, bytes_eq, IfSome, IfOk, refl, sym, ap, subst, arith}
use Rattle.std.specs.List.{list_any}
use Rattle.std.proofs.lemmas.Bool.{false≢true, and_parts, not-true, both_ways}
use Rattle.std.proofs.lemmas.Option.{none-some, same_Some}
use Rattle.std.proofs.lemmas.Result.{IfOk-at_ok, IfOk-weaker}
use Rattle.std.proofs.lemmas.Slice.Eq.{bytes_eq-Decides}
use Rattle.command_words.specs.declared.job.Job.{Job}
use Rattle.command_words.specs.declared.job.Usage.{Usage}
use Rattle.command_words.specs.declared.record.RecordOptions.{RecordOptions}
use Rattle.command_words.specs.declared.replay.ReplayOptions.{ReplayOptions}
use Rattle.command_words.specs.Allowed.{IsOther, KeepsApart, SparesImage}
use Rattle.command_words.specs.Behind.{ReadsWords}
use Rattle.command_words.specs.declared.job.Job.TheVariants.{Inspect, Trace, Sample}
use Rattle.command_words.specs.Texts.{is_name, number_in, word_at}
use Rattle.command_words.specs.Options.{Next, AnOption, ANumber, AName, once, behind, options}
use Rattle.command_words.specs.Tables.{record_option, no_record_option, recording, replay_option, no_replay_option, replaying}
use Rattle.command_words.specs.Grammar.{name, number, no_more, job_from, last_to, record_of, replay_of, inspect_of, moves_of, trace_of, sample_of, job_of}

-- What holds of both branches of a test.

either_option : {X : Type 0} (P : X → Type 0) (test : Bool) (first second : Option X) → IfSome first P → IfSome second P → IfSome (cond test first second) P
either_option P true first second holds_first holds_second = holds_first
either_option P false first second holds_first holds_second = holds_second

either : {X : Type 0} (P : X → Type 0) (test : Bool) (first second : Result X ℕ) → IfOk first P → IfOk second P → IfOk (cond test first second) P
either P true first second holds_first holds_second = holds_first
either P false first second holds_first holds_second = holds_second

-- A name differs from each of the names read before it.

listed : (names : List (List ℕ)) (word : List ℕ) → is_name names word ≡ true → list_any (bytes_eq word) names ≡ false
listed names [] e = absurd (false≢true e)
listed names (c ∷ cs) e = not-true (list_any (bytes_eq (c ∷ cs)) names) (and_parts _ _ e).1

not_first : (word name : List ℕ) (names : List (List ℕ)) → is_name (name ∷ names) word ≡ true → word ≢ name
not_first word name names e same =
    let none : (bytes_eq word name || list_any (bytes_eq word) names) ≡ false = listed (name ∷ names) word e in
    both_ways _ none (found (bytes_eq word name) (list_any (bytes_eq word) names) ((bytes_eq-Decides word name).1 same))
  where
    found : (a b : Bool) → a ≡ true → (a || b) ≡ true
    found true b e = refl
    found false b e = absurd (false≢true e)

not_second : (word first second : List ℕ) → is_name (first ∷ second ∷ []) word ≡ true → word ≢ second
not_second word first second e same =
    let none : (bytes_eq word first || (bytes_eq word second || false)) ≡ false = listed (first ∷ second ∷ []) word e in
    both_ways _ none (found (bytes_eq word first) (bytes_eq word second) ((bytes_eq-Decides word second).1 same))
  where
    found : (a b : Bool) → b ≡ true → (a || (b || false)) ≡ true
    found true b e = refl
    found false true e = refl
    found false false e = e

-- Options among these words and behind these names: a dump that was given stands at a word that may be its name.
module _ {G : Type 0} (dump_of : G → Option ℕ) (names : List (List ℕ)) (words : List (List ℕ)) where
  abbrev IsNamed : G → Type 0
  IsNamed given = (place : ℕ) → dump_of given ≡ Some place → is_name names (word_at words place) ≡ true

  -- so it is whatever value is read next
  abbrev StaysNamed : Next G → Type 0
  StaysNamed (AnOption given) = IsNamed given
  StaysNamed (ANumber least greatest with) = (n : ℕ) → IsNamed (with n)
  StaysNamed (AName with) = (place : ℕ) → is_name names (word_at words place) ≡ true → IsNamed (with place)

  -- what may stand next, by what is read
  once_named : (again : Bool) (next : Next G) → StaysNamed next → IfSome (once again next) StaysNamed
  once_named true next stays = tt
  once_named false next stays = stays

  number_named : (with : ℕ → G) (found : Option ℕ) → ((n : ℕ) → IsNamed (with n)) → IfSome (option_map (λ n. AnOption (with n)) found) StaysNamed
  number_named with None named = tt
  number_named with (Some n) named = named n

  name_named : (given : G) (test : Bool) → (test ≡ true → IsNamed given) → IfSome (cond test (Some (AnOption given)) None) StaysNamed
  name_named given true named = named refl
  name_named given false named = tt

  module _ (option : G → List ℕ → Option (Next G)) (option_named : (given : G) (word : List ℕ) → IsNamed given → IfSome (option given word) StaysNamed) where
    behind_named : (next : Next G) (place : ℕ) (word : List ℕ) → StaysNamed next → word_at words place ≡ word
        → IfSome (behind option names next place word) StaysNamed
    behind_named (AnOption given) place word stays here = option_named given word stays
    behind_named (ANumber least greatest with) place word stays here = number_named with (number_in least greatest word) stays
    behind_named (AName with) place word stays here =
        name_named (with place) (is_name names word) (λ e. stays place (subst (λ w. is_name names w ≡ true) (sym here) e))

    -- the words that are left stand from a place on
    abbrev StandFrom : ℕ → List (List ℕ) → Type 0
    StandFrom place left = (i : ℕ) → slice_get words (place + i) ≡ slice_get left i

    first_stands : (place : ℕ) (word : List ℕ) (left : List (List ℕ)) → StandFrom place (word ∷ left) → word_at words place ≡ word
    first_stands place word left stand =
        let e : place + 0 ≡ place = omega arith in
        ap (λ found. unwrap_or found []) (subst (λ i. slice_get words i ≡ Some word) e (stand 0))

    others_stand : (place : ℕ) (word : List ℕ) (left : List (List ℕ)) → StandFrom place (word ∷ left) → StandFrom (place + 1) left
    others_stand place word left stand i =
        let e : place + suc i ≡ place + 1 + i = omega arith in
        subst (λ j. slice_get words j ≡ slice_get left i) e (stand (suc i))

    -- what the first of them and those behind it give
    word_named : (next : Next G) (place : ℕ) (word : List ℕ) (left : List (List ℕ)) → StaysNamed next → StandFrom place (word ∷ left)
        → ((after : Next G) (here : ℕ) → StaysNamed after → StandFrom here left → IfOk (options option names after here left) IsNamed)
        → IfOk (elim (behind option names next place word) [ Some after ↦ options option names after (place + 1) left | None ↦ Err place ]) IsNamed
    word_named next place word left stays stand later =
        further (behind option names next place word) (behind_named next place word stays (first_stands place word left stand))
      where
        further : (found : Option (Next G)) → IfSome found StaysNamed
            → IfOk (elim found [ Some after ↦ options option names after (place + 1) left | None ↦ Err place ]) IsNamed
        further None kept = tt
        further (Some after) kept = later after (place + 1) kept (others_stand place word left stand)

    -- what all of them give
    options_named : (left : List (List ℕ)) (next : Next G) (place : ℕ) → StaysNamed next → StandFrom place left
        → IfOk (options option names next place left) IsNamed
    options_named [] (AnOption given) place stays stand = stays
    options_named [] (ANumber least greatest with) place stays stand = tt
    options_named [] (AName with) place stays stand = tt
    options_named (word ∷ left) (AnOption given) place stays stand = word_named (AnOption given) place word left stays stand (options_named left)
    options_named (word ∷ left) (ANumber least greatest with) place stays stand =
        word_named (ANumber least greatest with) place word left stays stand (options_named left)
    options_named (word ∷ left) (AName with) place stays stand = word_named (AName with) place word left stays stand (options_named left)

abbrev recording_dump : RecordOptions → Option ℕ
recording_dump given = given.dump

abbrev replay_dump : ReplayOptions → Option ℕ
replay_dump given = given.dump

-- The options of each command.
module _ (names : List (List ℕ)) (words : List (List ℕ)) where
  at_place : (place : ℕ) → is_name names (word_at words place) ≡ true → (other : ℕ) → Some place ≡ Some other → is_name names (word_at words other) ≡ true
  at_place place e other same = subst (λ i. is_name names (word_at words i) ≡ true) (same_Some place other same) e

  record_named : (given : RecordOptions) (word : List ℕ) → IsNamed recording_dump names words given
      → IfSome (record_option given word) (StaysNamed recording_dump names words)
  record_named given word named =
      let stays : Next RecordOptions → Type 0 = StaysNamed recording_dump names words in
      let may : (again : Bool) (next : Next RecordOptions) → stays next → IfSome (once again next) stays = once_named recording_dump names words in
      either_option stays (bytes_eq word (codes "--harts")) _ _ (may (is_some given.harts) (ANumber _ _ _) (λ n. named))
      (either_option stays (bytes_eq word (codes "--pages")) _ _ (may (is_some given.pages) (ANumber _ _ _) (λ n. named))
      (either_option stays (bytes_eq word (codes "--limit")) _ _ (may (is_some given.limit) (ANumber _ _ _) (λ n. named))
      (either_option stays (bytes_eq word (codes "--log-limit")) _ _ (may (is_some given.log_limit) (ANumber _ _ _) (λ n. named))
      (either_option stays (bytes_eq word (codes "--dump")) _ _ (may (is_some given.dump) (AName _) at_place)
      (either_option stays (bytes_eq word (codes "--rounds")) _ _ (may given.rounds (AnOption _) named) tt)))))

  replay_named : (given : ReplayOptions) (word : List ℕ) → IsNamed replay_dump names words given
      → IfSome (replay_option given word) (StaysNamed replay_dump names words)
  replay_named given word named =
      let stays : Next ReplayOptions → Type 0 = StaysNamed replay_dump names words in
      let may : (again : Bool) (next : Next ReplayOptions) → stays next → IfSome (once again next) stays = once_named replay_dump names words in
      either_option stays (bytes_eq word (codes "--dump")) _ _ (may (is_some given.dump) (AName _) at_place)
      (either_option stays (bytes_eq word (codes "--one")) _ _ (may (is_some given.way) (AnOption _) named)
      (either_option stays (bytes_eq word (codes "--rounds")) _ _ (may (is_some given.way) (AnOption _) named) tt))

-- What holds of each job that is read.
module _ (P : Job → Type 0) where
  number_read : (least greatest place : ℕ) (left : List (List ℕ)) (rest : ℕ → List (List ℕ) → Result Job ℕ)
      → ((n : ℕ) (left : List (List ℕ)) → IfOk (rest n left) P) → IfOk (number least greatest place left rest) P
  number_read least greatest place [] rest later = tt
  number_read least greatest place (word ∷ left) rest later = read (number_in least greatest word)
    where
      read : (found : Option ℕ) → IfOk (elim found [ Some n ↦ rest n left | None ↦ Err place ]) P
      read None = tt
      read (Some n) = later n left

  no_more_read : (place : ℕ) (left : List (List ℕ)) (job : Job) → P job → IfOk (no_more place left job) P
  no_more_read place [] job holds = holds
  no_more_read place (word ∷ left) job holds = tt

  job_read : {G : Type 0} (job : G → Job) (given : Result G ℕ) → IfOk given (λ g. P (job g)) → IfOk (job_from job given) P
  job_read job (Ok g) holds = holds
  job_read job (Err place) holds = tt

  either_known : (test : Bool) (first second : Result Job ℕ) → (test ≡ true → IfOk first P) → IfOk second P → IfOk (cond test first second) P
  either_known true first second holds_first holds_second = holds_first refl
  either_known false first second holds_first holds_second = holds_second

  -- the names of an image and of a log, and what is read behind them
  two_names : (left : List (List ℕ)) (rest : List ℕ → List ℕ → List (List ℕ) → Result Job ℕ)
      → ((image log : List ℕ) (more : List (List ℕ)) → left ≡ image ∷ log ∷ more → is_name (image ∷ []) log ≡ true → IfOk (rest image log more) P)
      → IfOk (name [] 1 left (λ image words. name (image ∷ []) 2 words (λ log words. rest image log words))) P
  two_names [] rest later = tt
  two_names (image ∷ []) rest later = either P (is_name [] image) (Err 2) (Err 1) tt tt
  two_names (image ∷ log ∷ more) rest later =
      either P (is_name [] image) (cond (is_name (image ∷ []) log) (rest image log more) (Err 2)) (Err 1)
      (either_known (is_name (image ∷ []) log) (rest image log more) (Err 2) (later image log more refl) tt) tt

  inspect_read : (left : List (List ℕ)) → P (Inspect 1) → IfOk (inspect_of left) P
  inspect_read [] holds = tt
  inspect_read (log ∷ left) holds = either P (is_name [] log) (no_more 2 left (Inspect 1)) (Err 1) (no_more_read 2 left (Inspect 1) holds) tt

  moves_read : (left : List (List ℕ)) → ((hart from to : ℕ) → P (Trace 1 2 hart from to)) → IfOk (moves_of left) P
  moves_read left holds =
      number_read 0 7 3 left _ (λ hart left. number_read 0 1000000000000 4 left _ (λ from left.
      number_read from (last_to from) 5 left _ (λ to left. no_more_read 6 left (Trace 1 2 hart from to) (holds hart from to))))

  sample_read : (left : List (List ℕ)) → ((n : ℕ) → P (Sample n)) → IfOk (sample_of left) P
  sample_read left holds = number_read 0 4294967295 1 left _ (λ n left. no_more_read 2 left (Sample n) (holds n))

-- the names of the files of a job of these words differ
abbrev Differ : List (List ℕ) → Job → Type 0
Differ words job = KeepsApart words job × SparesImage words job

-- A command with the names of an image and a log, and words behind them.
module _ (command image log : List ℕ) (more : List (List ℕ)) (named : is_name (image ∷ []) log ≡ true) where
  abbrev words : List (List ℕ)
  words = command ∷ image ∷ log ∷ more

  abbrev names : List (List ℕ)
  names = image ∷ log ∷ []

  log_differs : IsOther words (Some 2) 1
  log_differs = not_first log image [] named

  dump_differs : (dump : Option ℕ) → ((place : ℕ) → dump ≡ Some place → is_name names (word_at words place) ≡ true) → IsOther words dump 2
      × IsOther words dump 1
  dump_differs None is = (tt, tt)
  dump_differs (Some place) is =
      (not_second (word_at words place) image log (is place refl), not_first (word_at words place) image (log ∷ []) (is place refl))

  stand : (i : ℕ) → slice_get words (3 + i) ≡ slice_get more i
  stand i = let e : suc (suc (suc i)) ≡ 3 + i = omega arith in subst (λ j. slice_get words j ≡ slice_get more i) e refl

  recorded : (given : RecordOptions) → IsNamed recording_dump names words given → Differ words (recording given)
  recorded given is = let d = dump_differs given.dump is in (d.0, (log_differs, d.1))

  replayed : (given : ReplayOptions) → IsNamed replay_dump names words given → Differ words (replaying given)
  replayed given is = let d = dump_differs given.dump is in (d.0, (log_differs, d.1))

  record_read : IfOk (job_from recording (options record_option names (AnOption no_record_option) 3 more)) (Differ words)
  record_read =
      let given : Result RecordOptions ℕ = options record_option names (AnOption no_record_option) 3 more in
      job_read (Differ words) recording given
      (IfOk-weaker given (IsNamed recording_dump names words) (λ g. Differ words (recording g)) recorded
      (options_named recording_dump names words record_option (record_named names words) more (AnOption no_record_option) 3
      (λ place e. absurd (none-some place e)) stand))

  replay_read : IfOk (job_from replaying (options replay_option names (AnOption no_replay_option) 3 more)) (Differ words)
  replay_read =
      let given : Result ReplayOptions ℕ = options replay_option names (AnOption no_replay_option) 3 more in
      job_read (Differ words) replaying given
      (IfOk-weaker given (IsNamed replay_dump names words) (λ g. Differ words (replaying g)) replayed
      (options_named replay_dump names words replay_option (replay_named names words) more (AnOption no_replay_option) 3
      (λ place e. absurd (none-some place e)) stand))

  trace_read : IfOk (moves_of more) (Differ words)
  trace_read = moves_read (Differ words) more (λ hart from to. (tt, log_differs))

-- what is read behind two names holds of the words that they stand among
behind_names : (command : List ℕ) (left : List (List ℕ)) (rest : List ℕ → List ℕ → List (List ℕ) → Result Job ℕ)
    → ((image log : List ℕ) (more : List (List ℕ)) → is_name (image ∷ []) log ≡ true → IfOk (rest image log more) (Differ (command ∷ image ∷ log ∷ more)))
    → IfOk (name [] 1 left (λ image words. name (image ∷ []) 2 words (λ log words. rest image log words))) (Differ (command ∷ left))
behind_names command left rest holds =
    two_names (Differ (command ∷ left)) left rest
    (λ image log more is named. subst (λ words. IfOk (rest image log more) (Differ (command ∷ words))) (sym is) (holds image log more named))

words_read : (words : List (List ℕ)) → IfOk (job_of words) (Differ words)
words_read [] = tt
words_read (command ∷ left) =
    let named : Job → Type 0 = Differ (command ∷ left) in
    either named (bytes_eq command (codes "record")) _ _ (behind_names command left _ (record_read command))
    (either named (bytes_eq command (codes "replay")) _ _ (behind_names command left _ (replay_read command))
    (either named (bytes_eq command (codes "inspect")) _ _ (inspect_read named left (tt, tt))
    (either named (bytes_eq command (codes "trace")) _ _ (behind_names command left _ (trace_read command))
    (either named (bytes_eq command (codes "sample")) _ (Err 0) (sample_read named left (λ n. (tt, tt))) tt))))

pub read_apart : (words : List (List ℕ)) (result : Result Job Usage) → ReadsWords (job_of words) result → IfOk result (KeepsApart words)
read_apart words (Ok job) read = (IfOk-at_ok (Differ words) read (words_read words)).0
read_apart words (Err u) read = tt

pub read_sparing : (words : List (List ℕ)) (result : Result Job Usage) → ReadsWords (job_of words) result → IfOk result (SparesImage words)
read_sparing words (Ok job) read = (IfOk-at_ok (Differ words) read (words_read words)).1
read_sparing words (Err u) read = tt
