-- Where nothing fails a recording is done, and an orderly log is listed.
use Rattle.std.proofs.Common.{◌≡◌, ℕ, ◌<◌, ◌≤◌, Bool, true, false, List, length, Option, Some, None, Result, Ok, Err, IsSomeAnd, inl, inr, if◌then◌else◌, refl}
use Rattle.std.proofs.Common.{sym, ap, ◌∙◌, subst, arith, true≢false, ⊎_elim}
use Rattle.std.proofs.lemmas.Option.{none-some, same_Some}
use Rattle.rv_words.specs.declared.shared.Cause.{Cause}
use Rattle.rv_words.specs.declared.shared.Cause.TheVariants as causes
use Rattle.std.specs.Prelude.{◌⊎◌, ◌↔◌, is_ok, IsTrue}
use Rattle.outside.specs.Causes.{Rose}
use Rattle.elf_image.specs.Rules.{broken_rule}
use Rattle.command_words.specs.Grammar.{job_of}
use Rattle.command_words.specs.declared.job.Job.{Job}
use Rattle.crew_parts.specs.Boards.{World}
use Rattle.crew_parts.specs.Turns.{CountsFaults}
use Rattle.outside.specs.Seen.{SeenShelf, SeenSink, HoldsMore}
use Rattle.revirt_tool.specs.Serving.{Around, RecordsAs, TaskAs}
use Rattle.revirt_tool.specs.Tasks.{Wish, Task, Records, Lists, Samples, task, task_of}
use Rattle.revirt_tool.specs.Files.{longest, IsUntouched}
use Rattle.revirt_tool.specs.Listings.{InspectsAs, IsListing, IsLogOf, IsMalformed}
use Rattle.order_rules.specs.Orderly.{IsOrderly, IsLeastBreak}
use Rattle.order_rules.proofs.Reports.{reports_are_one}
use Rattle.room_laws.proofs.Judged.{order_sees_no_room}
use Rattle.log_entry.specs.declared.log.Log.{Log}
use Rattle.log_entry.specs.Room.{log_without_room}
use Rattle.log_format.specs.Grammar.{spelling, reading}
use Rattle.log_format.specs.Format.{Bad}
use Rattle.revirt_tool.specs.declared.ending.File.TheVariants as files
use Rattle.revirt_tool.specs.Samples.{SamplesAs}
use Rattle.revirt_tool.specs.Closing.{Prints, PrintsOrFails, Closes, status_of, status_unprinted}
use Rattle.revirt_tool.specs.Promise.{KeepsRecording, is_fault}
use Rattle.revirt_tool.specs.Complete.{HasImage, HoldsLog, HasLog, NothingFailed, IsRecorded, IsListed, RecordingsAreDone}
use Rattle.revirt_tool.specs.Complete.{ListingsAreDone, KeptAreLogs, IsSummedUp, SamplesAreDone}
use Rattle.revirt_tool.specs.declared.ending.Ending.{Ending}
use Rattle.revirt_tool.specs.declared.ending.Ending.TheVariants.{Usage, TooLong, ImageRefused, Malformed, OtherImage, Disorderly, Diverged}
use Rattle.revirt_tool.specs.declared.ending.Ending.TheVariants.{NoMemory, ShelfFault, Kept, Listed}
use Rattle.revirt_tool.proofs.ListingRoom.{listed_alike}

abbrev ok_or : {X : Type 0} → X → Result X Bad → X
ok_or other (Ok x) = x
ok_or other (Err bad) = other

pub same_ok : {X : Type 0} (x y : X) → ◌≡◌ {A = Result X Bad} (Ok x) (Ok y) → x ≡ y
same_ok x y e = ap (ok_or x) e

pub ok_isnt_err : {X : Type 0} (x : X) (bad : Bad) → ◌≡◌ {A = Result X Bad} (Ok x) (Err bad) → ⊥
ok_isnt_err x bad e = true≢false (ap is_ok e)

-- of two logs that say the same, but for the room of their waits, one isn't orderly where the other breaks a rule
pub not_judged : (one other : Log) (rule hart entry : ℕ) → log_without_room one ≡ log_without_room other → IsOrderly one
    → IsLeastBreak other rule hart entry → ⊥
not_judged one other rule hart entry same orderly breaks =
    reports_are_one.none one rule hart entry orderly (((order_sees_no_room one).breaks rule hart entry).0
    (subst (λ l. IsLeastBreak l rule hart entry) (sym same) (((order_sees_no_room other).breaks rule hart entry).1 breaks)))

faulted : (cause : Cause) (before now : ℕ) → true ≡ is_fault cause → CountsFaults None (Some cause) before now → Rose before now
faulted causes.Fault before now is rose = rose
faulted causes.Stop before now is kept = absurd (true≢false is)
faulted causes.Limit before now is kept = absurd (true≢false is)
faulted causes.Full before now is kept = absurd (true≢false is)
faulted causes.Cut before now is kept = absurd (true≢false is)

pub past : (most : ℕ) (held : Option (List ℕ)) (file : List ℕ) → held ≡ Some file → IsSomeAnd held (λ b. most < length b) → most < length file
past most held file is long = subst (λ h. IsSomeAnd h (λ b. most < length b)) is long

-- the words ask for one task
pub same_task : (words : List (List ℕ)) (P : Task → Type 0) (a wanted : Task) → task words ≡ Some a → task words ≡ Some wanted → P a → P wanted
same_task words P a wanted one other holds = subst P (same_Some a wanted (sym one ∙ other)) holds

-- words that ask for a task are in the grammar
pub in_grammar : (words : List (List ℕ)) (wanted : Task) (place : ℕ) → task words ≡ Some wanted → job_of words ≡ Err place → ⊥
in_grammar words wanted place is bad =
    none-some wanted (sym (ap (λ (r : Result Job ℕ). elim r [ Ok j ↦ Some (task_of words j) | Err place ↦ None ]) bad) ∙ is)

-- a text that was printed, where the sink didn't fail
pub prints : (text : List ℕ) (ok unprinted status : ℕ) (s t : SeenSink) → (Rose s.faults t.faults → ⊥) → PrintsOrFails text ok unprinted s t status
    → Prints text s t × (status ≡ ok)
prints text ok unprinted status s t quiet (inl done) = done
prints text ok unprinted status s t quiet (inr failed) = absurd (quiet failed.0.faults)

pub printed : (text : List ℕ) (ok unprinted status : ℕ) (s t : SeenSink) → (Rose s.faults t.faults → ⊥) → PrintsOrFails text ok unprinted s t status
    → status ≡ ok
printed text ok unprinted status s t quiet closes = (prints text ok unprinted status s t quiet closes).1

done : (report : List ℕ) (fault : Bool) (w : Wish) (s t : SeenShelf) (o p : World) → KeepsRecording w report fault s t o p
    → (Rose o.console.faults p.console.faults → ⊥) → fault ≡ false
done report true w s t o p keeps quiet = absurd (quiet (faulted keeps.log.cause o.console.faults p.console.faults keeps.fault_is keeps.comes.run.faults))
done report false w s t o p keeps quiet = refl

-- what is asked for ended so, and no count rose
module _ (words : List (List ℕ)) (before after : Around) (status : ℕ) (image : HasImage words before.shelf) (quiet : NothingFailed before after) where
  abbrev Ended : Ending → Type 0
  Ended ending = RecordsAs image.wanted before.shelf after.shelf before.sources after.sources ending

  recorded : (ending : Ending) (a : Task) → task words ≡ Some a → TaskAs a before.shelf after.shelf before.sources after.sources ending → Ended ending
  recorded ending a is ends =
      same_task words (λ b. TaskAs b before.shelf after.shelf before.sources after.sources ending) a (Records image.wanted) is image.is ends

  refused : (rule : ℕ) → Ended (ImageRefused rule) → ⊥
  refused rule ends =
      let refused = ends.0 in
      let file : refused.file ≡ image.file = same_Some _ _ (sym (refused.fetched.held image.tells) ∙ image.held) in
      none-some rule (sym image.accepted ∙ ap (λ f. broken_rule image.wanted.pages f) (sym file) ∙ refused.breaks)

  long : Ended (TooLong files.Image) → ⊥
  long ends =
      let is = past (longest files.Image) (before.shelf.held image.wanted.image) image.file image.held (ends.0.0 image.tells) in
      let within = image.within in
      omega (arith, is, within)

  kept : (text : List ℕ) (fault : Bool) → KeepsRecording image.wanted text fault before.shelf after.shelf before.sources after.sources
      → PrintsOrFails text (if fault then 5 else 0) (if fault then 5 else 11) before.sink after.sink status → IsRecorded image.wanted before after status
  kept text fault keeps closes =
      let none = done text fault image.wanted before.shelf after.shelf before.sources after.sources keeps quiet.console in
      let p = prints text 0 11 status before.sink after.sink quiet.sink
      (subst (λ f. PrintsOrFails text (if f then 5 else 0) (if f then 5 else 11) before.sink after.sink status) none closes) in
      record {
        status_is = p.1;
        text = text;
        keeps = subst (λ f. KeepsRecording image.wanted text f before.shelf after.shelf before.sources after.sources) none keeps;
        printed = p.0;
      }

pub recordings_done : RecordingsAreDone
recordings_done words before after status (Usage place, ends, closes) image quiet =
    absurd (in_grammar words (Records image.wanted) place image.is ends.0)
recordings_done words before after status (TooLong files.Image, ends, closes) image quiet =
    absurd (long words before after status image quiet (recorded words before after status image quiet (TooLong files.Image) ends.0 ends.1 ends.2))
recordings_done words before after status (TooLong files.Log, ends, closes) image quiet =
    absurd (recorded words before after status image quiet (TooLong files.Log) ends.0 ends.1 ends.2)
recordings_done words before after status (ImageRefused rule, ends, closes) image quiet =
    absurd (refused words before after status image quiet rule (recorded words before after status image quiet (ImageRefused rule) ends.0 ends.1 ends.2))
recordings_done words before after status (Malformed offset rule, ends, closes) image quiet =
    absurd (recorded words before after status image quiet (Malformed offset rule) ends.0 ends.1 ends.2)
recordings_done words before after status (OtherImage named has, ends, closes) image quiet =
    absurd (recorded words before after status image quiet (OtherImage named has) ends.0 ends.1 ends.2)
recordings_done words before after status (Disorderly rule hart entry, ends, closes) image quiet =
    absurd (recorded words before after status image quiet (Disorderly rule hart entry) ends.0 ends.1 ends.2)
recordings_done words before after status (Diverged hart count rule, ends, closes) image quiet =
    absurd (recorded words before after status image quiet (Diverged hart count rule) ends.0 ends.1 ends.2)
recordings_done words before after status (NoMemory, ends, inl prints) image quiet = inr (printed _ 3 3 status before.sink after.sink quiet.sink prints)
recordings_done words before after status (NoMemory, ends, inr other) image quiet = absurd (true≢false (sym other.0))
recordings_done words before after status (ShelfFault, ends, closes) image quiet =
    absurd (quiet.shelf (⊎_elim (λ fetch. fetch.0.rose) (λ unkept. unkept.fails.rose)
    (recorded words before after status image quiet ShelfFault ends.0 ends.1 ends.2)))
recordings_done words before after status (Kept report fault, ends, inr other) image quiet = absurd (true≢false (sym other.0))
recordings_done words before after status (Kept report fault, ends, inl prints) image quiet =
    inl (kept words before after status image quiet report.items fault
    (recorded words before after status image quiet (Kept report fault) ends.0 ends.1 ends.2) (as_tests fault prints)) where
      as_tests : (f : Bool) → PrintsOrFails report.items (status_of (Kept report f)) (status_unprinted (Kept report f)) before.sink after.sink status
          → PrintsOrFails report.items (if f then 5 else 0) (if f then 5 else 11) before.sink after.sink status
      as_tests true x = x
      as_tests false x = x
recordings_done words before after status (Listed listing orderly, ends, closes) image quiet =
    absurd (recorded words before after status image quiet (Listed listing orderly) ends.0 ends.1 ends.2)

-- what is fetched of a log that the shelf holds
module _ (name : List ℕ) (s : SeenShelf) (holds : HoldsLog name s) where
  -- the file that was fetched is the log's
  fetched_is : (file : List ℕ) → s.held name ≡ Some file → reading file ≡ Ok (log_without_room holds.log)
  fetched_is file held = ap reading (same_Some file (spelling holds.log) (sym held ∙ holds.held)) ∙ holds.again

  pub log_not_long : HoldsMore s name (longest files.Log) → ⊥
  log_not_long more =
      let is = past (longest files.Log) (s.held name) (spelling holds.log) holds.held (more holds.tells) in
      let within = holds.within in
      omega (arith, is, within)

  pub well_formed : (offset rule : ℕ) → IsMalformed name s offset rule → ⊥
  well_formed offset rule is = ok_isnt_err _ _ (sym (fetched_is is.file (is.fetched.held holds.tells)) ∙ is.bad)

  -- what is read says the same
  pub reads_alike : (read : Log) → IsLogOf name s read → log_without_room holds.log ≡ log_without_room read
  reads_alike read is = same_ok _ _ (sym (fetched_is is.file (is.fetched.held holds.tells)) ∙ is.read)

  -- and breaks no rule where the log is orderly
  pub not_disorderly : IsOrderly holds.log → (read : Log) (rule hart entry : ℕ) → IsLogOf name s read → IsLeastBreak read rule hart entry → ⊥
  not_disorderly orderly read rule hart entry is breaks =
      not_judged holds.log read rule hart entry (reads_alike read is) orderly breaks

-- what is asked for ended so, and no count rose
module _ (words : List (List ℕ)) (before after : Around) (status : ℕ) (log : HasLog words before.shelf) (quiet : NothingFailed before after) where
  listed : (ending : Ending) (a : Task) → task words ≡ Some a → TaskAs a before.shelf after.shelf before.sources after.sources ending
      → InspectsAs log.name before.shelf after.shelf ending
  listed ending a is ends =
      (same_task words (λ b. TaskAs b before.shelf after.shelf before.sources after.sources ending) a (Lists log.name) is log.is ends).0

  -- the listing of what was read tells whether the log is orderly
  judges : (read : Log) (text : List ℕ) (orderly : Bool) → IsLogOf log.name before.shelf read → IsListing read text orderly
      → (orderly ≡ true) ↔ IsOrderly log.holds.log
  judges read text true is l =
      let same = reads_alike log.name before.shelf log.holds read is in (
        λ told. (order_sees_no_room log.holds.log).orderly.0
            (subst IsOrderly (sym same) ((order_sees_no_room read).orderly.1 l.judged.0)),
        λ orderly. refl,
      )
  judges read text false is l = (
    λ told. absurd (true≢false (sym told)),
    λ orderly. absurd (not_disorderly log.name before.shelf log.holds orderly read l.judged.rule l.judged.hart l.judged.entry is l.judged.breaks),
  )

  listed_so : (text : List ℕ) (orderly : Bool) → IsUntouched before.shelf after.shelf
      → ((read : Log) × IsLogOf log.name before.shelf read × IsListing read text orderly)
      → Prints text before.sink after.sink × (status ≡ (if orderly then 0 else 7)) → IsListed log.holds.log before after status
  listed_so text orderly kept (read, is, l) p = record {
    text = text;
    orderly = orderly;
    judged = judges read text orderly is l;
    listing = listed_alike log.holds.log read text orderly (reads_alike log.name before.shelf log.holds read is) l;
    status_is = p.1;
    printed = p.0;
    kept = kept;
  }

pub listings_done : ListingsAreDone
listings_done words before after status (Usage place, ends, closes) log quiet = absurd (in_grammar words (Lists log.name) place log.is ends.0)
listings_done words before after status (TooLong files.Image, ends, closes) log quiet =
    absurd (listed words before after status log quiet (TooLong files.Image) ends.0 ends.1 ends.2)
listings_done words before after status (TooLong files.Log, ends, closes) log quiet =
    absurd (log_not_long log.name before.shelf log.holds (listed words before after status log quiet (TooLong files.Log) ends.0 ends.1 ends.2).0)
listings_done words before after status (ImageRefused rule, ends, closes) log quiet =
    absurd (listed words before after status log quiet (ImageRefused rule) ends.0 ends.1 ends.2)
listings_done words before after status (Malformed offset rule, ends, closes) log quiet =
    absurd (well_formed log.name before.shelf log.holds offset rule
    (listed words before after status log quiet (Malformed offset rule) ends.0 ends.1 ends.2).0)
listings_done words before after status (OtherImage named has, ends, closes) log quiet =
    absurd (listed words before after status log quiet (OtherImage named has) ends.0 ends.1 ends.2)
listings_done words before after status (Disorderly rule hart entry, ends, closes) log quiet =
    absurd (listed words before after status log quiet (Disorderly rule hart entry) ends.0 ends.1 ends.2)
listings_done words before after status (Diverged hart count rule, ends, closes) log quiet =
    absurd (listed words before after status log quiet (Diverged hart count rule) ends.0 ends.1 ends.2)
listings_done words before after status (NoMemory, ends, inl prints) log quiet = inr (printed _ 3 3 status before.sink after.sink quiet.sink prints)
listings_done words before after status (NoMemory, ends, inr other) log quiet = absurd (true≢false (sym other.0))
listings_done words before after status (ShelfFault, ends, closes) log quiet =
    absurd (quiet.shelf (listed words before after status log quiet ShelfFault ends.0 ends.1 ends.2).rose)
listings_done words before after status (Kept report fault, ends, closes) log quiet =
    absurd (listed words before after status log quiet (Kept report fault) ends.0 ends.1 ends.2)
listings_done words before after status (Listed listing true, ends, inl closes) log quiet =
    let l = listed words before after status log quiet (Listed listing true) ends.0 ends.1 ends.2 in
    inl (listed_so words before after status log quiet listing.items true l.0 l.1
    (prints listing.items 0 11 status before.sink after.sink quiet.sink closes))
listings_done words before after status (Listed listing false, ends, inl closes) log quiet =
    let l = listed words before after status log quiet (Listed listing false) ends.0 ends.1 ends.2 in
    inl (listed_so words before after status log quiet listing.items false l.0 l.1
    (prints listing.items 7 7 status before.sink after.sink quiet.sink closes))
listings_done words before after status (Listed listing true, ends, inr other) log quiet = absurd (true≢false (sym other.0))
listings_done words before after status (Listed listing false, ends, inr other) log quiet = absurd (true≢false (sym other.0))

pub kept_within : (w : Wish) (text : List ℕ) (fault : Bool) (s t : SeenShelf) (o p : World) (keeps : KeepsRecording w text fault s t o p)
    → w.log_limit ≤ longest files.Log → length (spelling keeps.log) ≤ longest files.Log
kept_within w text fault s t o p keeps limit =
    let within = keeps.within in
    omega (arith, within, limit)

-- a shelf that tells and holds the log that a recording kept holds a log
abbrev pub kept_log_held : (w : Wish) (text : List ℕ) (fault : Bool) (s t u : SeenShelf) (o p : World) (name : List ℕ)
    (keeps : KeepsRecording w text fault s t o p) → w.log_limit ≤ longest files.Log → IsTrue u.tells
    → u.held name ≡ Some (spelling keeps.log) → HoldsLog name u
kept_log_held w text fault s t u o p name keeps limit tells held =
    record {
      tells = tells;
      log = keeps.log;
      held = held;
      within = kept_within w text fault s t o p keeps limit;
      again = keeps.again;
    }

pub kept_are_logs : KeptAreLogs
kept_are_logs w text fault s t o p name u keeps limit tells held =
    (kept_log_held w text fault s t u o p name keeps limit tells held, refl, keeps.orderly)

-- what was printed of a sample, and with which status
sample_closes : (number : ℕ) (before after : Around) (status : ℕ) (ending : Ending) → IsUntouched before.shelf after.shelf → SamplesAs number ending
    → Closes ending before.sink after.sink status
    → IsSummedUp number before after status ⊎ ((status ≡ 3) ⊎ ((status ≡ 11) × Rose before.sink.faults after.sink.faults))
sample_closes number before after status NoMemory kept is (inl (inl line)) = inr (inl line.1)
sample_closes number before after status NoMemory kept is (inl (inr failed)) = inr (inl failed.1)
sample_closes number before after status NoMemory kept is (inr other) = absurd (true≢false (sym other.0))
sample_closes number before after status (Kept text false) kept is (inl (inl line)) =
    inl (record { status_is = line.1; text = text.items; sample = is.0; printed = line.0; kept = kept })
sample_closes number before after status (Kept text false) kept is (inl (inr failed)) = inr (inr (failed.1, failed.0.faults))
sample_closes number before after status (Kept text false) kept is (inr other) = absurd (true≢false (sym other.0))
sample_closes number before after status (Kept text true) kept is closes = absurd (true≢false is.1)
sample_closes number before after status ending kept is closes = absurd is

pub samples_done : SamplesAreDone
samples_done words number before after status (Usage place, ends, closes) is = absurd (in_grammar words (Samples number) place is ends.0)
samples_done words number before after status (ending, ends, closes) is =
    let so = same_task words (λ b. TaskAs b before.shelf after.shelf before.sources after.sources ending) ends.0 (Samples number) ends.1 is ends.2 in
    sample_closes number before after status ending so.1.0 so.0 closes
