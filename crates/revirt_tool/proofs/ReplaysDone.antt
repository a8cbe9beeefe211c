-- Where nothing fails the replay of a log that was recorded is done, with the recording's report, and traces of it are told.
use Rattle.std.proofs.Common.{◌≡◌, ℕ, Bool, true, false, List, length, Option, Some, None, inl, inr, refl, sym, ap, ap₂, ◌∙◌, subst}
use Rattle.std.proofs.Common.{arith, true≢false, ⊎_elim}
use Rattle.std.specs.Prelude.{◌⊎◌, IsTrue}
use Rattle.std.proofs.lemmas.List.{length-map}
use Rattle.std.proofs.lemmas.Option.{none-some, same_Some}
use Rattle.outside.specs.Causes.{Rose}
use Rattle.outside.specs.Fetching.{IsPast}
use Rattle.outside.specs.Seen.{SeenShelf}
use Rattle.elf_image.specs.Image.{Image, start_digest}
use Rattle.elf_image.specs.Loading.{image_of}
use Rattle.elf_image.specs.Rules.{broken_rule}
use Rattle.flat_machine.specs.State.{FlatState, flat_at_start}
use Rattle.flat_machine.specs.Runs.{final_of}
use Rattle.flat_machine.specs.declared.results.Final.{Final}
use Rattle.flat_machine.specs.declared.results.Step.{Step}
use Rattle.log_entry.specs.declared.log.Log.{Log}
use Rattle.log_entry.specs.Parts.{unit_of}
use Rattle.log_entry.specs.Room.{log_without_room, stream_without_room}
use Rattle.orders_law.specs.Orders.{IsLeast}
use Rattle.replay_model.specs.Board.{board}
use Rattle.replay_model.specs.State.{Replay}
use Rattle.replay_model.specs.Items.{step}
use Rattle.replay_model.specs.Outcome.{Outcome, Done, Diverged, IsOutcome}
use Rattle.replay_law.specs.Laws.{first_flat, first_replay}
use Rattle.replay_core.specs.Stories.{moves_of, moves_between, IsStoryOf}
use Rattle.replay_ends.proofs.Outcomes.{outcome_is_one}
use Rattle.room_laws.proofs.Recordings.{replays_see_no_room, beginnings_see_no_room}
use Rattle.report_view.specs.Report.{report}
use Rattle.report_view.specs.Trace.{trace}
use Rattle.crew_parts.specs.Boards.{World}
use Rattle.revirt_tool.specs.Tasks.{ReplayWish, TraceWish, Task, Replays, Traces, task}
use Rattle.revirt_tool.specs.Files.{longest, WasFetched}
use Rattle.revirt_tool.specs.Listings.{IsLogOf}
use Rattle.revirt_tool.specs.Replays.{IsImageOf, IsRefusedOf, IsOther, EndsAt, DivergesAt, HoldsDump, AreReadFor, KeepsReplay, ReplaysAs}
use Rattle.revirt_tool.specs.Closing.{Closes, Prints}
use Rattle.revirt_tool.specs.Traces.{TellsMoves, TracesAs}
use Rattle.revirt_tool.specs.Serving.{Around, TaskAs, EndsAs}
use Rattle.revirt_tool.specs.Complete.{HoldsReplay, NothingFailed, image_held, end_held}
use Rattle.revirt_tool.specs.Complete.{IsReplayed, IsTraced, ReplaysAreDone, TracesAreDone, KeptAreReplayed}
use Rattle.revirt_tool.specs.declared.ending.File.TheVariants as files
use Rattle.revirt_tool.specs.declared.ending.Ending.{Ending}
use Rattle.revirt_tool.specs.declared.ending.Ending.TheVariants.{Usage, TooLong, ImageRefused, Malformed, OtherImage, Disorderly}
use Rattle.revirt_tool.specs.declared.ending.Ending.TheVariants.{Diverged as DivergedSo, NoMemory, ShelfFault, Kept, Listed}
use Rattle.revirt_tool.proofs.Replayed.{is_done, state_of}
use Rattle.revirt_tool.proofs.Completeness.{past, same_task, in_grammar, prints, printed, log_not_long, well_formed, reads_alike, not_disorderly, kept_log_held}

-- what a log comes to over an image
abbrev ComesTo : Log → Image → Outcome FlatState → Type 0
ComesTo log image o = IsOutcome (board (unit_of log)) log (first_flat log image) o

-- it comes to what the log without room comes to
module _ (log : Log) (image : Image) (o : Outcome FlatState) where
  first_is : first_flat (log_without_room log) image ≡ first_flat log image
  first_is = ap (flat_at_start image) (length-map log.streams stream_without_room)

  bare : ComesTo log image o → ComesTo (log_without_room log) image o
  bare is =
      subst (λ f. IsOutcome (board (unit_of log)) (log_without_room log) f o) (sym first_is)
      (((replays_see_no_room (unit_of log) log).outcomes (first_flat log image) o).1 is)

  roomy : ComesTo (log_without_room log) image o → ComesTo log image o
  roomy is =
      ((replays_see_no_room (unit_of log) log).outcomes (first_flat log image) o).0
      (subst (λ f. IsOutcome (board (unit_of log)) (log_without_room log) f o) first_is is)

-- and so does a log that says the same
pub alike_to : (one other : Log) (image : Image) (o : Outcome FlatState) → log_without_room one ≡ log_without_room other → ComesTo other image o
    → ComesTo one image o
alike_to one other image o same is = roomy one image o (subst (λ l. ComesTo l image o) (sym same) (bare other image o is))

-- a story of a log is one of the log without room
module _ (log : Log) (image : Image) (hart from to : ℕ) (steps : List Step) where
  -- where an order is the least one, by the steps of a replay, its harts, and where it begins
  abbrev Least : (ℕ → Replay FlatState → Option (Replay FlatState × Option (List Step))) → ℕ → Replay FlatState → Type 0
  Least go harts first =
      (made : List (ℕ × Option (List Step))) × ((end : Replay FlatState)
      × IsLeast go harts first made end × (steps ≡ moves_between from to (moves_of log hart made)))

  goes_alike : step (board (unit_of log)) (log_without_room log) ≡ step (board (unit_of log)) log
  goes_alike = (replays_see_no_room (unit_of log) log).steps_are

  begins_alike : first_replay (log_without_room log) image ≡ first_replay log image
  begins_alike = (beginnings_see_no_room log image).first_is

  bare_story : IsStoryOf log image hart from to steps → IsStoryOf (log_without_room log) image hart from to steps
  bare_story is =
      subst (λ go. Least go (length (log_without_room log).streams) (first_replay (log_without_room log) image)) (sym goes_alike)
      (subst (λ n. Least (step (board (unit_of log)) log) n (first_replay (log_without_room log) image))
      (sym (length-map log.streams stream_without_room))
      (subst (λ first. Least (step (board (unit_of log)) log) (length log.streams) first) (sym begins_alike) is))

  roomy_story : IsStoryOf (log_without_room log) image hart from to steps → IsStoryOf log image hart from to steps
  roomy_story is =
      subst (λ first. Least (step (board (unit_of log)) log) (length log.streams) first) begins_alike
      (subst (λ n. Least (step (board (unit_of log)) log) n (first_replay (log_without_room log) image)) (length-map log.streams stream_without_room)
      (subst (λ go. Least go (length (log_without_room log).streams) (first_replay (log_without_room log) image)) goes_alike is))

-- and so of a log that says the same
story_alike : (one other : Log) (image : Image) (hart from to : ℕ) (steps : List Step) → log_without_room one ≡ log_without_room other
    → IsStoryOf other image hart from to steps → IsStoryOf one image hart from to steps
story_alike one other image hart from to steps same is =
    roomy_story one image hart from to steps
    (subst (λ l. IsStoryOf l image hart from to steps) (sym same) (bare_story other image hart from to steps is))

-- an ending of a replay or a trace over a shelf that tells throughout and on which nothing fails
abbrev may_end : Ending → Bool
may_end NoMemory = true
may_end (Kept text fault) = true
may_end ending = false

-- the log and the image are there
module _ (w : ReplayWish) (s t : SeenShelf) (has : HoldsReplay w s) (tells : IsTrue t.tells) where
  abbrev log : Log
  log = has.holds.log

  abbrev image : Image
  image = image_of log.pages has.file

  alike : (read : Log) → IsLogOf w.log s read → log_without_room log ≡ log_without_room read
  alike read is = reads_alike w.log s has.holds read is

  file_is : (file : List ℕ) → WasFetched files.Image w.image s t file → has.file ≡ file
  file_is file fetched = same_Some _ _ (sym has.held ∙ fetched.held tells)

  image_is : (read : Log) (other : Image) → IsLogOf w.log s read → IsImageOf w.image s t read other → image ≡ other
  image_is read other is of =
      ap₂ image_of (ap (λ (l : Log). l.pages) (alike read is)) (file_is of.file of.fetched) ∙ sym of.read

  not_long : (IsTrue t.tells → IsPast (longest files.Image) (s.held w.image)) → ⊥
  not_long more =
      let is = past (longest files.Image) (s.held w.image) has.file has.held (more tells) in
      let within = has.within in
      omega (arith, is, within)

  not_refused : (read : Log) (rule : ℕ) → IsLogOf w.log s read → IsRefusedOf w.image s t read rule → ⊥
  not_refused read rule is of =
      none-some rule (sym has.accepted
      ∙ ap₂ broken_rule (ap (λ (l : Log). l.pages) (alike read is)) (file_is of.file of.fetched) ∙ of.breaks)

  not_other : (read : Log) (named other : List ℕ) → IsLogOf w.log s read → IsOther w.image s t read named other → ⊥
  not_other read named other is of =
      of.differ (of.named_is ∙ sym (ap (λ (l : Log). l.image) (alike read is)) ∙ sym has.start_is
      ∙ ap start_digest (image_is read of.image is of.read) ∙ sym of.has_is)

  -- what was read comes to the one outcome
  done_so : (read : Log) (other : Image) (o : Outcome FlatState) → IsLogOf w.log s read → IsImageOf w.image s t read other
      → ComesTo read other o → Done has.state ≡ o
  done_so read other o is of comes =
      outcome_is_one log (first_flat log image) (Done has.state) o has.done
      (subst (λ i. ComesTo log i o) (sym (image_is read other is of)) (alike_to log read other o (alike read is) comes))

  not_diverged : (hart count rule : ℕ) → AreReadFor w s t (λ l i. DivergesAt l i hart count rule) → ⊥
  not_diverged hart count rule (read, is, (other, of, named, diverges)) =
      true≢false (ap is_done (done_so read other (Diverged hart count rule diverges.state) is of diverges.diverged))

  -- and so to the one end
  end_is : (read : Log) (other : Image) (end : Final) → IsLogOf w.log s read → IsImageOf w.image s t read other
      → EndsAt read other end → end ≡ end_held w s has
  end_is read other end is of ends =
      ends.end_is ∙ sym (ap₂ final_of (ap state_of (done_so read other (Done ends.state) is of ends.done))
      (ap (λ (l : Log). l.cause) (alike read is)))

  kept_so : (text : List ℕ) → AreReadFor w s t (λ l i. KeepsReplay w text s t l i)
      → HoldsDump w (end_held w s has) s t × (text ≡ report (end_held w s has))
  kept_so text (read, is, (other, of, named, keeps)) =
      let same = end_is read other keeps.end is of keeps.ends in
      (subst (λ e. HoldsDump w e s t) same keeps.kept, keeps.reported ∙ ap report same)

  replay_may : (ending : Ending) → ReplaysAs w s t ending → (Rose s.faults t.faults → ⊥) → may_end ending ≡ true
  replay_may (TooLong files.Image) ends quiet = absurd (not_long ends.2.0)
  replay_may (TooLong files.Log) ends quiet = absurd (log_not_long w.log s has.holds ends.0)
  replay_may (ImageRefused rule) ends quiet = absurd (not_refused ends.0.0 rule ends.0.1 ends.0.2)
  replay_may (Malformed offset rule) ends quiet = absurd (well_formed w.log s has.holds offset rule ends.0)
  replay_may (OtherImage named other) ends quiet = absurd (not_other ends.0.0 named other ends.0.1 ends.0.2)
  replay_may (Disorderly rule hart entry) ends quiet = absurd (not_disorderly w.log s has.holds has.orderly ends.0.0 rule hart entry ends.0.1 ends.0.2.3)
  replay_may (DivergedSo hart count rule) ends quiet = absurd (not_diverged hart count rule ends.0)
  replay_may ShelfFault ends quiet = absurd (quiet (⊎_elim (λ fetch. fetch.rose) (λ unkept. unkept.1.rose) ends))
  replay_may NoMemory ends quiet = refl
  replay_may (Kept text fault) ends quiet = refl
  replay_may (Usage place) ends quiet = absurd ends
  replay_may (Listed listing orderly) ends quiet = absurd ends

-- how words that ask for a task end, where the task can't end as words do that ask for none
task_ends : (words : List (List ℕ)) (wanted : Task) (s t : SeenShelf) (o p : World) (ending : Ending) → task words ≡ Some wanted
    → EndsAs words s t o p ending → TaskAs wanted s t o p ending
task_ends words wanted s t o p (Usage place) is ends = absurd (in_grammar words wanted place is ends.0)
task_ends words wanted s t o p ending is ends = same_task words (λ b. TaskAs b s t o p ending) ends.0 wanted ends.1 is ends.2

module _ (before after : Around) (status : ℕ) (tells : IsTrue after.shelf.tells) (quiet : NothingFailed before after) where
  replay_closes : (w : ReplayWish) (has : HoldsReplay w before.shelf) (ending : Ending) → ReplaysAs w before.shelf after.shelf ending → may_end ending ≡ true
      → Closes ending before.sink after.sink status → IsReplayed w (end_held w before.shelf has) before after status ⊎ (status ≡ 3)
  replay_closes w has NoMemory ends may (inl line) = inr (printed _ 3 3 status before.sink after.sink quiet.sink line)
  replay_closes w has NoMemory ends may (inr other) = absurd (true≢false (sym other.0))
  replay_closes w has (Kept text true) ends may closes = absurd (true≢false ends.1)
  replay_closes w has (Kept text false) ends may (inl closes) =
      let k = kept_so w before.shelf after.shelf has tells text.items ends.0 in
      let p = prints text.items 0 11 status before.sink after.sink quiet.sink closes in
      inl (record { status_is = p.1; kept = k.0; printed = subst (λ x. Prints x before.sink after.sink) k.1 p.0 })
  replay_closes w has (Kept text false) ends may (inr other) = absurd (true≢false (sym other.0))
  replay_closes w has ending ends may closes = absurd (true≢false (sym may))

  trace_may : (w : TraceWish) (has : HoldsReplay w.files before.shelf) (ending : Ending) → TracesAs w before.shelf after.shelf ending
      → may_end ending ≡ true
  trace_may w has (Kept text fault) ends = refl
  trace_may w has ending ends = replay_may w.files before.shelf after.shelf has tells ending ends quiet.shelf

  -- the moves that were told are those of the log and the image that are there
  told_so : (w : TraceWish) (has : HoldsReplay w.files before.shelf) (text : List ℕ)
      → AreReadFor w.files before.shelf after.shelf (λ l i. TellsMoves w text l i)
      → (steps : List Step) × IsStoryOf has.holds.log (image_held w.files before.shelf has) w.hart w.from w.to steps × (text ≡ trace w.from steps)
  told_so w has text (read, is, (other, of, named, tells_moves)) =
      let image = image_held w.files before.shelf has in
      let moves = subst (λ i. IsStoryOf read i w.hart w.from w.to tells_moves.steps)
      (sym (image_is w.files before.shelf after.shelf has tells read other is of)) tells_moves.moves in (
        tells_moves.steps,
        story_alike has.holds.log read image w.hart w.from w.to tells_moves.steps (alike w.files before.shelf after.shelf has tells read is) moves,
        tells_moves.told,
      )

  trace_closes : (w : TraceWish) (has : HoldsReplay w.files before.shelf) (ending : Ending) → TracesAs w before.shelf after.shelf ending
      → may_end ending ≡ true → Closes ending before.sink after.sink status
      → IsTraced w has.holds.log (image_held w.files before.shelf has) before after status ⊎ (status ≡ 3)
  trace_closes w has NoMemory ends may (inl line) = inr (printed _ 3 3 status before.sink after.sink quiet.sink line)
  trace_closes w has NoMemory ends may (inr other) = absurd (true≢false (sym other.0))
  trace_closes w has (Kept text true) ends may closes = absurd (true≢false ends.2)
  trace_closes w has (Kept text false) ends may (inl closes) =
      let t = told_so w has text.items ends.0 in
      let p = prints text.items 0 11 status before.sink after.sink quiet.sink closes in
      inl (record {
        status_is = p.1;
        steps = t.0;
        moves = t.1;
        printed = subst (λ x. Prints x before.sink after.sink) t.2 p.0;
        kept = ends.1;
      })
  trace_closes w has (Kept text false) ends may (inr other) = absurd (true≢false (sym other.0))
  trace_closes w has ending ends may closes = absurd (true≢false (sym may))

pub replays_done : ReplaysAreDone
replays_done words before after status serves has tells quiet =
    let ends = (task_ends words (Replays has.wanted) before.shelf after.shelf before.sources after.sources serves.0 has.is serves.1).0 in
    replay_closes before after status tells quiet has.wanted has.there serves.0 ends
    (replay_may has.wanted before.shelf after.shelf has.there tells serves.0 ends quiet.shelf) serves.2

pub traces_done : TracesAreDone
traces_done words before after status serves has tells quiet =
    let ends = (task_ends words (Traces has.wanted) before.shelf after.shelf before.sources after.sources serves.0 has.is serves.1).0 in
    trace_closes before after status tells quiet has.wanted has.there serves.0 ends
    (trace_may before after status tells quiet has.wanted has.there serves.0 ends) serves.2

pub kept_are_replayed : KeptAreReplayed
kept_are_replayed w text fault s t o p r u keeps limit tells log_held held =
    let head = keeps.head in
    let file = keeps.file in
    let log = keeps.log in (
      record {
        holds = kept_log_held w text fault s t u o p r.log keeps limit tells log_held;
        orderly = keeps.orderly;
        file = file;
        held = held;
        within = keeps.fetched.within;
        accepted = subst (λ n. broken_rule n file ≡ None) (sym head.pages) keeps.accepted;
        start_is = ap (λ n. start_digest (image_of n file)) head.pages ∙ sym head.start_is;
        state = keeps.end.flat;
        done = subst (λ n. IsOutcome (board (unit_of log)) log (flat_at_start (image_of n file) (length log.streams)) (Done keeps.end.flat)) (sym head.pages)
            (subst (λ n. IsOutcome (board (unit_of log)) log (flat_at_start (image_of w.pages file) n) (Done keeps.end.flat))
            (sym head.harts) keeps.replayed);
      },
      refl,
      ap (λ n. image_of n file) head.pages,
      refl,
      sym keeps.reported,
    )
