-- Where words aren't in the grammar, the place is that of the first word that can't stand there.
use Rattle.std.proofs.Common.{◌≡◌, ℕ, ◌+◌, ◌<◌, ◌≤◌, Bool, true, false, List, [], ◌∷◌, ◌++◌, length, take, Option, Some, None, Result, Ok, Err, IsOk, codes}
use Rattle.std.proofs.Common.{is_some, refl, sym, ap, ap₂, ◌∙◌, ◌&&◌, subst, inl, inr, arith, if◌then◌else◌, true≢false, append_assoc}
use Rattle.std.specs.Option.{option_map}
use Rattle.std.specs.Str.{bytes_eq}
use Rattle.std.proofs.lemmas.List.{length-append}
use Rattle.std.proofs.Math.Seq.{take-append_seam, take-append-add}
use Rattle.std.proofs.lemmas.Option.{none-some, same_Some}
use Rattle.command_words.specs.declared.job.Job.{Job}
use Rattle.command_words.specs.declared.job.Job.TheVariants.{Inspect, Trace, Sample}
use Rattle.command_words.specs.declared.job.Way.TheVariants.{One, Rounds}
use Rattle.command_words.specs.declared.record.RecordOptions.{RecordOptions}
use Rattle.command_words.specs.declared.replay.ReplayOptions.{ReplayOptions}
use Rattle.std.proofs.lemmas.Bool.{le-leb}
use Rattle.std.proofs.lemmas.Bool.Decides.{leb_tells}
use Rattle.command_words.specs.Texts.{is_name, in_range, number_of, number_in}
use Rattle.command_words.specs.Options.{Next, AnOption, ANumber, AName, behind, once, options}
use Rattle.command_words.specs.Tables.{record_option, no_record_option, recording, replay_option, no_replay_option, replaying}
use Rattle.command_words.specs.Grammar.{name, number, no_more, job_from, record_of, replay_of, inspect_of, trace_of, sample_of, moves_of, last_to, job_of}
use Rattle.command_words.specs.Laws.{Begin, IsFirstBad, PlacesAreFirst}
use Rattle.command_words.proofs.Readers.{Words, StopsAt, IsLeftToRight, CanRead, stops_here, stops_later, same_place, ok_no_err, nothing_there, head_is}
use Rattle.command_words.proofs.Readers.{no_more_stops, name_stops, name_can, number_stops, number_can, fresh, fresh_is}

-- what may stand next can be filled
abbrev IsFillable : {G : Type 0} → Next G → Type 0
IsFillable (AnOption given) = Unit {0}
IsFillable (ANumber least greatest with) = (text : List ℕ) × (n : ℕ) × (number_in least greatest text ≡ Some n)
IsFillable (AName with) = Unit {0}

module _ {G : Type 0} (option : G → List ℕ → Option (Next G)) (names : Words)
    (fills : (given : G) (word : List ℕ) (next : Next G) → option given word ≡ Some next → IsFillable next) where
  abbrev rest : ℕ → Words → Option (Next G) → Result G ℕ
  rest place words after = elim after [ Some next ↦ options option names next (place + 1) words | None ↦ Err place ]

  unfolds : (next : Next G) (place : ℕ) (word : List ℕ) (words : Words)
      → options option names next place (word ∷ words) ≡ rest place words (behind option names next place word)
  unfolds (AnOption given) place word words = refl
  unfolds (ANumber least greatest with) place word words = refl
  unfolds (AName with) place word words = refl

  can_go_on : (next : Next G) (place : ℕ) → IsFillable next → CanRead (options option names next place)
  can_go_on (AnOption given) place fill = ([], refl)
  can_go_on (ANumber least greatest with) place fill =
      (fill.0 ∷ [], subst IsOk (sym (ap (λ (o : Option ℕ). rest place [] (option_map (λ n. AnOption (with n)) o)) fill.2)) refl)
  can_go_on (AName with) place fill =
      (fresh names ∷ [], subst IsOk (sym (ap (λ b. rest place [] (if b then Some (AnOption (with place)) else None)) (fresh_is names))) refl)

  fills_behind : (next after : Next G) (place : ℕ) (word : List ℕ) → behind option names next place word ≡ Some after → IsFillable after
  fills_behind (AnOption given) after place word is = fills given word after is
  fills_behind (ANumber least greatest with) after place word is = by (number_in least greatest word) is where
    by : (o : Option ℕ) → option_map (λ n. AnOption (with n)) o ≡ Some after → IsFillable after
    by (Some n) same = subst IsFillable (same_Some _ _ same) tt
    by None same = absurd (none-some _ same)
  fills_behind (AName with) after place word is = by (is_name names word) is where
    by : (b : Bool) → (if b then Some (AnOption (with place)) else None) ≡ Some after → IsFillable after
    by true same = subst IsFillable (same_Some _ _ same) tt
    by false same = absurd (none-some _ same)

  ends_early : (next : Next G) (from place : ℕ) → IsFillable next → options option names next from [] ≡ Err place
      → StopsAt (options option names next from) from [] place
  ends_early (AnOption given) from place fill e = absurd (ok_no_err given place e)
  ends_early (ANumber least greatest with) from place fill e =
      stops_here (options option names (ANumber least greatest with) from) from place [] (sym (same_place from place e))
      (can_go_on (ANumber least greatest with) from fill) (λ w tail is more. absurd (nothing_there w tail is))
  ends_early (AName with) from place fill e =
      stops_here (options option names (AName with) from) from place [] (sym (same_place from place e)) (can_go_on (AName with) from fill)
      (λ w tail is more. absurd (nothing_there w tail is))

  pub options_stop : (next : Next G) (from : ℕ) → IsFillable next → IsLeftToRight (options option names next from) from
  options_stop next from fill [] place e = ends_early next from place fill e
  options_stop next from fill (word ∷ words) place e =
      by (behind option names next from word) refl (λ after is. options_stop after (from + 1) (fills_behind next after from word is) words place) where
        by : (after : Option (Next G)) → behind option names next from word ≡ after
            → ((after : Next G) → behind option names next from word ≡ Some after → options option names after (from + 1) words ≡ Err place
            → StopsAt (options option names after (from + 1)) (from + 1) words place)
            → StopsAt (options option names next from) from (word ∷ words) place
        by (Some after) is later =
            stops_later (options option names next from) (options option names after (from + 1)) from place word words
            (λ more. unfolds next from word more ∙ ap (rest from more) is)
            (later after is (sym (unfolds next from word words ∙ ap (rest from words) is) ∙ e))
        by None is later =
            let here : Err from ≡ Err place = sym (unfolds next from word words ∙ ap (rest from words) is) ∙ e in
            stops_here (options option names next from) from place (word ∷ words) (sym (same_place from place here)) (can_go_on next from fill)
            (λ w tail same more. subst (λ x. options option names next from (x ∷ more) ≡ Err place) (head_is word w words tail same)
            (unfolds next from word more ∙ (ap (rest from more) is ∙ here)))

-- the job of what the options give
module _ {G : Type 0} (job : G → Job) (read : Words → Result G ℕ) (from : ℕ) where
  refused : (place : ℕ) (given : Result G ℕ) → job_from job given ≡ Err place → given ≡ Err place
  refused place (Ok g) e = absurd (ok_no_err (job g) place e)
  refused place (Err p) e = ap Err (same_place p place e)

  fine : (given : Result G ℕ) → IsOk given → IsOk (job_from job given)
  fine (Ok g) ok = refl
  fine (Err p) ok = absurd (true≢false (sym ok))

  pub job_stops : IsLeftToRight read from → IsLeftToRight (λ words. job_from job (read words)) from
  job_stops stops words place e =
      let s = stops words place (refused place (read words) e) in
      record {
        before = s.before;
        rest = s.rest;
        parts = s.parts;
        place_is = s.place_is;
        goes_on = (s.goes_on.0, fine (read (s.before ++ s.goes_on.0)) s.goes_on.1);
        bad = λ w tail is more. ap (job_from job) (s.bad w tail is more);
      }

  pub job_can : CanRead read → CanRead (λ words. job_from job (read words))
  job_can can = (can.0, fine (read can.0) can.1)

fills_once : {G : Type 0} (given : Bool) (next after : Next G) → IsFillable next → once given next ≡ Some after → IsFillable after
fills_once true next after fill is = absurd (none-some _ is)
fills_once false next after fill is = subst IsFillable (same_Some _ _ is) fill

fills_if : {G : Type 0} (b given : Bool) (next : Next G) (other : Option (Next G)) (after : Next G) → IsFillable next → (other ≡ Some after → IsFillable after)
    → (if b then once given next else other) ≡ Some after → IsFillable after
fills_if true given next other after fill else_so is = fills_once given next after fill is
fills_if false given next other after fill else_so is = else_so is

record_fills : (given : RecordOptions) (word : List ℕ) (next : Next RecordOptions) → record_option given word ≡ Some next → IsFillable next
record_fills given word next =
    fills_if (bytes_eq word (codes "--harts")) (is_some given.harts) (ANumber 1 8 (λ n. record given { harts = Some n })) _ next (codes "1", 1, refl)
    (fills_if (bytes_eq word (codes "--pages")) (is_some given.pages) (ANumber 1 4096 (λ n. record given { pages = Some n })) _ next (codes "1", 1, refl)
    (fills_if (bytes_eq word (codes "--limit")) (is_some given.limit) (ANumber 0 1000000000000 (λ n. record given { limit = Some n })) _ next
    (codes "0", 0, refl)
    (fills_if (bytes_eq word (codes "--log-limit")) (is_some given.log_limit) (ANumber 1024 536870912 (λ n. record given { log_limit = Some n })) _ next
    (codes "1024", 1024, refl)
    (fills_if (bytes_eq word (codes "--dump")) (is_some given.dump) (AName (λ place. record given { dump = Some place })) _ next tt
    (fills_if (bytes_eq word (codes "--rounds")) given.rounds (AnOption (record given { rounds = true })) None next tt (λ e. absurd (none-some _ e)))))))

replay_fills : (given : ReplayOptions) (word : List ℕ) (next : Next ReplayOptions) → replay_option given word ≡ Some next → IsFillable next
replay_fills given word next =
    fills_if (bytes_eq word (codes "--dump")) (is_some given.dump) (AName (λ place. record given { dump = Some place })) _ next tt
    (fills_if (bytes_eq word (codes "--one")) (is_some given.way) (AnOption (record given { way = Some One })) _ next tt
    (fills_if (bytes_eq word (codes "--rounds")) (is_some given.way) (AnOption (record given { way = Some Rounds })) None next tt
    (λ e. absurd (none-some _ e))))

module _ (image log : List ℕ) where
  record_ends : IsLeftToRight (λ words. job_from recording (options record_option (image ∷ log ∷ []) (AnOption no_record_option) 3 words)) 3
  record_ends = job_stops recording _ 3 (options_stop record_option (image ∷ log ∷ []) record_fills (AnOption no_record_option) 3 tt)

  record_can : CanRead (λ words. job_from recording (options record_option (image ∷ log ∷ []) (AnOption no_record_option) 3 words))
  record_can = ([], refl)

  replay_ends : IsLeftToRight (λ words. job_from replaying (options replay_option (image ∷ log ∷ []) (AnOption no_replay_option) 3 words)) 3
  replay_ends = job_stops replaying _ 3 (options_stop replay_option (image ∷ log ∷ []) replay_fills (AnOption no_replay_option) 3 tt)

  replay_can : CanRead (λ words. job_from replaying (options replay_option (image ∷ log ∷ []) (AnOption no_replay_option) 3 words))
  replay_can = ([], refl)

-- two names, and then what stands behind them
module _ (rest : List ℕ → List ℕ → Words → Result Job ℕ) (can : (image log : List ℕ) → CanRead (rest image log))
    (stops : (image log : List ℕ) → IsLeftToRight (rest image log) 3) where
  two_stop : IsLeftToRight (λ words. name [] 1 words (λ image words. name (image ∷ []) 2 words (rest image))) 1
  two_stop =
      name_stops [] 1 _ (λ image ok. name_can (image ∷ []) 2 (rest image) (λ log fine. can image log) (λ log fine. stops image log))
      (λ image ok. name_stops (image ∷ []) 2 (rest image) (λ log fine. can image log) (λ log fine. stops image log))

-- a number in its range from 0 is one in any range that has it
in_its_range : (most n : ℕ) (o : Option ℕ) → in_range 0 most o ≡ Some n → (o ≡ Some n) × (n ≤ most)
in_its_range most n None is = absurd (none-some _ is)
in_its_range most n (Some m) is = elim (leb_tells m most) [
  | inl (b, l) ↦
      let same = same_Some _ _ (sym (ap₂ (λ x y. if x && y then Some m else None) (le-leb 0 m (omega arith)) b) ∙ is) in
      (ap Some same, omega (arith, l, same))
  | inr (b, l) ↦ absurd (none-some _ (sym (ap₂ (λ x y. if x && y then Some m else None) (le-leb 0 m (omega arith)) b) ∙ is))
]

to_itself : (n : ℕ) (word : List ℕ) → number_in 0 1000000000000 word ≡ Some n → number_in n (last_to n) word ≡ Some n
to_itself n word is =
    let own = in_its_range 1000000000000 n (number_of word) is in
    let most = own.1 in
    ap (in_range n (last_to n)) own.0
    ∙ ap₂ (λ a b. if a && b then Some n else None) (le-leb n n (omega arith)) (le-leb n (last_to n) (omega (arith, most)))

module _ (hart : ℕ) where
  abbrev to_words : ℕ → Words → Result Job ℕ
  to_words from words = number from (last_to from) 5 words (λ to words. no_more 6 words (Trace 1 2 hart from to))

  to_can : (n : ℕ) (word : List ℕ) → number_in 0 1000000000000 word ≡ Some n → CanRead (to_words n)
  to_can n word is =
      number_can n (last_to n) 5 (λ to words. no_more 6 words (Trace 1 2 hart n to)) word n (to_itself n word is) ([], refl)
      (λ w to fine. no_more_stops 6 (Trace 1 2 hart n to))

  to_stops : (n : ℕ) (word : List ℕ) → number_in 0 1000000000000 word ≡ Some n → IsLeftToRight (to_words n) 5
  to_stops n word is =
      number_stops n (last_to n) 5 (λ to words. no_more 6 words (Trace 1 2 hart n to)) word n (to_itself n word is) ([], refl)
      (λ w to fine. no_more_stops 6 (Trace 1 2 hart n to))

  abbrev from_words : Words → Result Job ℕ
  from_words words = number 0 1000000000000 4 words to_words

  from_can : CanRead from_words
  from_can = number_can 0 1000000000000 4 to_words (codes "0") 0 refl (to_can 0 (codes "0") refl) (λ w n is. to_stops n w is)

  from_stops : IsLeftToRight from_words 4
  from_stops = number_stops 0 1000000000000 4 to_words (codes "0") 0 refl (to_can 0 (codes "0") refl) (λ w n is. to_stops n w is)

moves_can : CanRead moves_of
moves_can = number_can 0 7 3 from_words (codes "0") 0 refl (from_can 0) (λ w n is. from_stops n)

moves_stop : IsLeftToRight moves_of 3
moves_stop = number_stops 0 7 3 from_words (codes "0") 0 refl (from_can 0) (λ w n is. from_stops n)

inspect_stops : IsLeftToRight inspect_of 1
inspect_stops = name_stops [] 1 (λ log words. no_more 2 words (Inspect 1)) (λ log ok. ([], refl)) (λ log ok. no_more_stops 2 (Inspect 1))

sample_stops : IsLeftToRight sample_of 1
sample_stops = number_stops 0 4294967295 1 (λ n words. no_more 2 words (Sample n)) (codes "0") 0 refl ([], refl) (λ w n is. no_more_stops 2 (Sample n))

-- the command
module _ (command : List ℕ) (words : Words) (place : ℕ) where
  -- where this is what the words behind it give
  abbrev Branch : (Words → Result Job ℕ) → Type 0
  Branch read = ((more : Words) → job_of (command ∷ more) ≡ read more) → StopsAt job_of 0 (command ∷ words) place

  known : (read : Words → Result Job ℕ) → IsLeftToRight read 1 → job_of (command ∷ words) ≡ Err place → Branch read
  known read stops e is = stops_later job_of read 0 place command words is (stops words place (sym (is words) ∙ e))

  choice : (b : Bool) (one other : Words → Result Job ℕ) → Branch one → Branch other → Branch (λ more. if b then one more else other more)
  choice true one other a b is = a is
  choice false one other a b is = b is

  unknown : job_of (command ∷ words) ≡ Err place → Branch (λ more. Err 0)
  unknown e is =
      let here : Err 0 ≡ Err place = sym (is words) ∙ e in
      stops_here job_of 0 place (command ∷ words) (sym (same_place 0 place here)) (codes "sample" ∷ codes "0" ∷ [], refl)
      (λ w tail same more. subst (λ x. job_of (x ∷ more) ≡ Err place) (head_is command w words tail same) (is more ∙ here))

  command_stops : job_of (command ∷ words) ≡ Err place → StopsAt job_of 0 (command ∷ words) place
  command_stops e =
      choice (bytes_eq command (codes "record")) record_of _ (known record_of (two_stop _ record_can record_ends) e)
      (choice (bytes_eq command (codes "replay")) replay_of _ (known replay_of (two_stop _ replay_can replay_ends) e)
      (choice (bytes_eq command (codes "inspect")) inspect_of _ (known inspect_of inspect_stops e)
      (choice (bytes_eq command (codes "trace")) trace_of _
      (known trace_of (two_stop (λ image log. moves_of) (λ image log. moves_can) (λ image log. moves_stop)) e)
      (choice (bytes_eq command (codes "sample")) sample_of _ (known sample_of sample_stops e) (unknown e))))) (λ more. refl)

job_stops_at : IsLeftToRight job_of 0
job_stops_at [] place e =
    stops_here job_of 0 place [] (sym (same_place 0 place e)) (codes "sample" ∷ codes "0" ∷ [], refl) (λ w tail is more. absurd (nothing_there w tail is))
job_stops_at (command ∷ words) place e = command_stops command words place e

-- a reader that stops at a place
module _ (words : Words) (place : ℕ) (s : StopsAt job_of 0 words place) where
  long : length words ≡ place + length s.rest
  long = let p = s.place_is in let n = ap length s.parts ∙ length-append s.before s.rest in omega (arith, p, n)

  at : place ≡ length s.before
  at = let p = s.place_is in omega (arith, p)

  taken : take place words ≡ s.before
  taken = ap₂ take at s.parts ∙ take-append_seam s.before s.rest

  taken_more : (w : List ℕ) (tail : Words) → s.rest ≡ w ∷ tail → take (place + 1) words ≡ s.before ++ w ∷ []
  taken_more w tail is = ap₂ (λ p ws. take (p + 1) ws) at (s.parts ∙ ap (λ r. s.before ++ r) is) ∙ take-append-add s.before (w ∷ tail) 1

  bad_there : (rest : Words) → s.rest ≡ rest → place < length words → Begin (take (place + 1) words) → ⊥
  bad_there [] is l begins = let n = long in let e = ap length is in absurd (omega (arith, l, n, e))
  bad_there (w ∷ tail) is l begins =
      let more = begins.0 in
      let ok : IsOk (job_of (s.before ++ w ∷ more)) =
      subst (λ ws. IsOk (job_of ws)) (ap (λ ws. ws ++ more) (taken_more w tail is) ∙ append_assoc s.before (w ∷ []) more) begins.1 in
      true≢false (sym (subst IsOk (s.bad w tail is more) ok))

  first_bad : IsFirstBad words place
  first_bad = record {
    within = let n = long in omega (arith, n);
    before = (s.goes_on.0, subst (λ ws. IsOk (job_of (ws ++ s.goes_on.0))) (sym taken) s.goes_on.1);
    at_place = bad_there s.rest refl;
  }

pub places_are_first : PlacesAreFirst
places_are_first words place e = first_bad words place (job_stops_at words place e)
