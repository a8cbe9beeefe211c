-- What the words ask for.
use Rattle.std.proofs.Common.{◌≡◌, ◌≢◌, ℕ, Bool, false, List, Option, Some, None, Result, Ok, Err, option_map, IfSome, inl, inr, refl, sym, ap, ◌∙◌}
use Rattle.std.proofs.Common.{subst}
use Rattle.std.proofs.lemmas.Option.{none-some, same_Some}
use Rattle.command_words.specs.declared.job.Job.{Job}
use Rattle.command_words.specs.declared.job.Job.TheVariants.{Record, Replay, Inspect, Trace, Sample}
use Rattle.command_words.specs.Grammar.{job_of, is_free, asks_free_run}
use Rattle.command_words.specs.Texts.{word_at}
use Rattle.command_words.specs.Allowed.{KeepsApart}
use Rattle.outside.specs.Seen.{SeenShelf}
use Rattle.crew_parts.specs.Boards.{World}
use Rattle.revirt_tool.specs.Tasks.{Wish, ReplayWish, TraceWish, Task, Records, Replays, Traces, Lists, Samples, task, task_of, IsFetchedBy, Fetches}
use Rattle.revirt_tool.specs.Listings.{InspectsAs}
use Rattle.revirt_tool.specs.Replays.{ReplaysAs}
use Rattle.revirt_tool.specs.Traces.{TracesAs}
use Rattle.revirt_tool.specs.Samples.{SamplesAs}
use Rattle.revirt_tool.specs.Serving.{RecordsAs, EndsAs}
use Rattle.revirt_tool.specs.declared.ending.Ending.{Ending}
use Rattle.revirt_tool.specs.declared.ending.Ending.TheVariants.{Usage, TooLong, ImageRefused, Malformed, OtherImage, Disorderly, Diverged}
use Rattle.revirt_tool.specs.declared.ending.Ending.TheVariants.{NoMemory, ShelfFault, Kept, Listed}

-- the words ask for a recording and have its image fetched
pub fetches : (words : List (List ℕ)) (w : Wish) → task words ≡ Some (Records w) → Fetches words w.image
fetches words w is = subst (λ a. IsFetchedBy a w.image) (sym is) refl

-- whether the harts of a task run free, where it is a recording
abbrev asked_free : Task → Option Bool
asked_free (Records w) = Some w.free
asked_free other = None

free_by : (words : List (List ℕ)) (read : Result Job ℕ) (w : Wish)
    → elim read [ Ok job ↦ Some (task_of words job) | Err place ↦ None ] ≡ Some (Records w)
    → elim read [ Ok job ↦ is_free job | Err place ↦ false ] ≡ w.free
free_by words (Ok (Record image log harts pages limit log_limit dump rounds)) w is = same_Some _ _ (ap asked_free (same_Some _ _ is))
free_by words (Ok (Replay image log dump way)) w is = absurd (none-some w.free (ap asked_free (same_Some _ _ is)))
free_by words (Ok (Inspect log)) w is = absurd (none-some w.free (ap asked_free (same_Some _ _ is)))
free_by words (Ok (Trace image log hart from to)) w is = absurd (none-some w.free (ap asked_free (same_Some _ _ is)))
free_by words (Ok (Sample number)) w is = absurd (none-some w.free (ap asked_free (same_Some _ _ is)))
free_by words (Err place) w is = absurd (none-some (Records w) is)

-- and its harts run free exactly where the words ask for a free run
pub runs_free : (words : List (List ℕ)) (w : Wish) → task words ≡ Some (Records w) → asks_free_run words ≡ w.free
runs_free words w is = free_by words (job_of words) w is

-- a replay has both files fetched
pub fetches_log : (words : List (List ℕ)) (w : ReplayWish) → task words ≡ Some (Replays w) → Fetches words w.log
fetches_log words w is = subst (λ a. IsFetchedBy a w.log) (sym is) (inl refl)

pub fetches_image : (words : List (List ℕ)) (w : ReplayWish) → task words ≡ Some (Replays w) → Fetches words w.image
fetches_image words w is = subst (λ a. IsFetchedBy a w.image) (sym is) (inr refl)

placed : (words : List (List ℕ)) (dump : Option ℕ) (d : List ℕ) → option_map (word_at words) dump ≡ Some d
    → (place : ℕ) × (dump ≡ Some place) × (word_at words place ≡ d)
placed words None d e = absurd (none-some d e)
placed words (Some place) d e = (place, refl, same_Some _ _ e)

each : {B : Type 0} (now : B → List ℕ) (o : Option B) (P : List ℕ → Type 0) → ((d : List ℕ) → option_map now o ≡ Some d → P d) → IfSome o (λ d. P (now d))
each now None P f = tt
each now (Some d) P f = f (now d) refl

-- and its dump has another name than its log
pub dump_is_other : {B : Type 0} (now : B → List ℕ) (o : Option B) (words : List (List ℕ)) (job : Job)
    (image log harts pages limit log_limit : ℕ) (dump : Option ℕ) (rounds : Bool) (b : List ℕ)
    → KeepsApart words job → job ≡ Record image log harts pages limit log_limit dump rounds → b ≡ word_at words log
    → option_map now o ≡ option_map (word_at words) dump → IfSome o (λ d. now d ≢ b)
dump_is_other now o words job image log harts pages limit log_limit dump rounds b apart is log_is dump_is =
    each now o (λ d. d ≢ b) (λ d e same.
    let p = placed words dump d (sym dump_is ∙ e) in
    let recording = is ∙ ap (λ x. Record image log harts pages limit log_limit x rounds) p.1 in
    subst (KeepsApart words) recording apart (p.2 ∙ same ∙ log_is))

-- what comes of a recording is what comes of the words
pub ends_as : (words : List (List ℕ)) (w : Wish) (s t : SeenShelf) (o p : World) (ending : Ending) → task words ≡ Some (Records w)
    → RecordsAs w s t o p ending → EndsAs words s t o p ending
ends_as words w s t o p (Usage place) is records = absurd records
ends_as words w s t o p (TooLong file) is records = (Records w, is, records)
ends_as words w s t o p (ImageRefused rule) is records = (Records w, is, records)
ends_as words w s t o p (Malformed offset rule) is records = absurd records
ends_as words w s t o p (OtherImage named has) is records = absurd records
ends_as words w s t o p (Disorderly rule hart entry) is records = absurd records
ends_as words w s t o p (Diverged hart count rule) is records = absurd records
ends_as words w s t o p NoMemory is records = (Records w, is, records)
ends_as words w s t o p ShelfFault is records = (Records w, is, records)
ends_as words w s t o p (Kept report fault) is records = (Records w, is, records)
ends_as words w s t o p (Listed listing orderly) is records = absurd records

-- and so of a listing, which asks neither console nor clock
pub lists_as : (words : List (List ℕ)) (name : List ℕ) (s t : SeenShelf) (o p : World) (ending : Ending) → task words ≡ Some (Lists name)
    → InspectsAs name s t ending → p ≡ o → EndsAs words s t o p ending
lists_as words name s t o p (Usage place) is lists same = absurd lists
lists_as words name s t o p (TooLong file) is lists same = (Lists name, is, (lists, same))
lists_as words name s t o p (ImageRefused rule) is lists same = absurd lists
lists_as words name s t o p (Malformed offset rule) is lists same = (Lists name, is, (lists, same))
lists_as words name s t o p (OtherImage named has) is lists same = absurd lists
lists_as words name s t o p (Disorderly rule hart entry) is lists same = absurd lists
lists_as words name s t o p (Diverged hart count rule) is lists same = absurd lists
lists_as words name s t o p NoMemory is lists same = (Lists name, is, (lists, same))
lists_as words name s t o p ShelfFault is lists same = (Lists name, is, (lists, same))
lists_as words name s t o p (Kept report fault) is lists same = absurd lists
lists_as words name s t o p (Listed listing orderly) is lists same = (Lists name, is, (lists, same))

-- and so of a replay
pub replays_as : (words : List (List ℕ)) (w : ReplayWish) (s t : SeenShelf) (o p : World) (ending : Ending) → task words ≡ Some (Replays w)
    → ReplaysAs w s t ending → p ≡ o → EndsAs words s t o p ending
replays_as words w s t o p (Usage place) is ends same = absurd ends
replays_as words w s t o p (TooLong file) is ends same = (Replays w, is, (ends, same))
replays_as words w s t o p (ImageRefused rule) is ends same = (Replays w, is, (ends, same))
replays_as words w s t o p (Malformed offset rule) is ends same = (Replays w, is, (ends, same))
replays_as words w s t o p (OtherImage named has) is ends same = (Replays w, is, (ends, same))
replays_as words w s t o p (Disorderly rule hart entry) is ends same = (Replays w, is, (ends, same))
replays_as words w s t o p (Diverged hart count rule) is ends same = (Replays w, is, (ends, same))
replays_as words w s t o p NoMemory is ends same = (Replays w, is, (ends, same))
replays_as words w s t o p ShelfFault is ends same = (Replays w, is, (ends, same))
replays_as words w s t o p (Kept report fault) is ends same = (Replays w, is, (ends, same))
replays_as words w s t o p (Listed listing orderly) is ends same = absurd ends

-- and so of a trace
pub traces_as : (words : List (List ℕ)) (w : TraceWish) (s t : SeenShelf) (o p : World) (ending : Ending) → task words ≡ Some (Traces w)
    → TracesAs w s t ending → p ≡ o → EndsAs words s t o p ending
traces_as words w s t o p (Usage place) is ends same = absurd ends
traces_as words w s t o p ending is ends same = (Traces w, is, (ends, same))

-- and so of a sample, which keeps nothing
pub samples_as : (words : List (List ℕ)) (number : ℕ) (s : SeenShelf) (o p : World) (ending : Ending) → task words ≡ Some (Samples number)
    → SamplesAs number ending → p ≡ o → EndsAs words s s o p ending
samples_as words number s o p (Usage place) is ends same = absurd ends
samples_as words number s o p ending is ends same = (Samples number, is, (ends, (record { held = λ told n. refl; faults = refl }, same)))
