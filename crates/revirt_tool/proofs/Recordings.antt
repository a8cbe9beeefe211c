-- A recording that was kept keeps what the program promises.
use Rattle.std.proofs.Common.{◌≡◌, ℕ, ◌+◌, ◌<◌, ◌≢◌, Bool, true, false, List, [], ◌∷◌, ◌++◌, length, slice_index, None}
use Rattle.std.proofs.Common.{sym, ap, ◌∙◌, subst, Option}
use Rattle.std.proofs.Common.{Some, IfSome, Ok, Err, inl, inr, ⊎_elim, refl, arith}
use Rattle.std.specs.Prelude.{◌↔◌}
use Rattle.std.specs.List.{enumerate_from}
use Rattle.std.proofs.lemmas.List.{append-nil, length-map}
use Rattle.std.proofs.lemmas.List.FromFn.{length-map-range_with_len, length-enumerate_from}
use Rattle.rv_words.specs.declared.shared.Cause.TheVariants as causes
use Rattle.rv_hart.specs.Moves.{hart_at_start}
use Rattle.outside.specs.Causes.{Rose}
use Rattle.outside.specs.Seen.{SeenShelf, Takes, ToldBefore}
use Rattle.elf_image.specs.Image.{Image}
use Rattle.elf_image.specs.Loading.{image_of}
use Rattle.elf_image.specs.Rules.{broken_rule}
use Rattle.flat_machine.specs.State.{FlatState, flat_at_start}
use Rattle.flat_machine.specs.Runs.{final_of}
use Rattle.flat_machine.specs.declared.results.Final.{Final}
use Rattle.log_entry.specs.declared.log.Entry.{Entry}
use Rattle.log_entry.specs.declared.log.Entry.TheVariants.{End}
use Rattle.log_entry.specs.declared.log.Log.{Log}
use Rattle.log_entry.specs.Parts.{unit_of}
use Rattle.log_entry.specs.Range.{in_range}
use Rattle.log_entry.specs.Size.{size_in, size_of_log}
use Rattle.log_entry.specs.Room.{stream_without_room, log_without_room}
use Rattle.log_format.specs.Grammar.{spelling, reading}
use Rattle.order_rules.specs.Places.{stream}
use Rattle.replay_model.specs.Board.{board}
use Rattle.replay_model.specs.State.{Replay}
use Rattle.replay_model.specs.Journal.{order_of}
use Rattle.replay_model.specs.Outcome.{Done, IsOutcome, cause_agrees}
use Rattle.replay_model.proofs.ActsOfOrders.{orders_drive}
use Rattle.replay_law.specs.Laws.{IsReplayable}
use Rattle.replay_law.proofs.Orders.{all_orders_agree, orders_tell_outcome}
use Rattle.crew_recording.specs.Recording.{stream_in}
use Rattle.crew_recording.proofs.Streams.{ended_at}
use Rattle.room_laws.proofs.Judged.{order_sees_no_room}
use Rattle.turn_model.specs.Board.{Board, Terms}
use Rattle.turn_model.specs.Lists.{RecordingEnd, comes_to}
use Rattle.turn_laws.specs.EndLaws.{IsFull, IsAtConsole, greatest}
use Rattle.crew_parts.specs.Boards.{Plain, World, the_machine, spent, terms_of}
use Rattle.recorded_turns.specs.Recordings.{IsRightBy}
use Rattle.recorded_turns.proofs.Recordings.{rounds_are_right, rounds_are_not_cut}
use Rattle.free_run.proofs.Right.{freely_is_right, freely_is_not_cut}
use Rattle.report_view.specs.Report.{report}
use Rattle.revirt_tool.specs.Tasks.{Wish}
use Rattle.revirt_tool.specs.Files.{IsFetched, IsUntouched}
use Rattle.revirt_tool.specs.Recordings.{Answered, EndsBy, Comes, KindOf, RecordsAsAsked, begun}
use Rattle.revirt_tool.specs.Promise.{HasHead, HoldsNow, EndsFull, AllEndThere, KeepsRecording, replay_at_start, is_fault}
use Rattle.revirt_tool.specs.Replays.{EndsAt, IsReportable}
use Rattle.revirt_tool.specs.Serving.{KeepsAs, RecordsAs, FailsToKeep, ImageAs}
use Rattle.revirt_tool.proofs.Ended.{stream_ended, agrees_so}
use Rattle.revirt_tool.proofs.Replayed.{at_end, reportable}
use Rattle.revirt_tool.specs.declared.ending.File.TheVariants as files
use Rattle.revirt_tool.specs.declared.ending.Ending.{Ending}
use Rattle.revirt_tool.specs.declared.ending.Ending.TheVariants.{Usage, TooLong, ImageRefused, Malformed, OtherImage, Disorderly, Diverged}
use Rattle.revirt_tool.specs.declared.ending.Ending.TheVariants.{NoMemory, ShelfFault, Kept, Listed}

-- full orders of a replayable log agree, from the start of a board with as many harts as it has streams
every : (log : Log) (image : Image) (is : IsReplayable log image) (harts : ℕ) (order : List ℕ) (end : Replay FlatState) → length log.streams ≡ harts
    → (full : EndsFull log image harts order end) → AllEndThere log image harts order end full
every log image is harts order end number =
    subst (λ n. (full : EndsFull log image n order end) → AllEndThere log image n order end full) number
    (λ full other t one.
    let agree = all_orders_agree log image other order t end is one full in (
      agree.0,
      orders_drive (unit_of log) log (replay_at_start log image (length log.streams)) t other (one.0, one.1, one.2.leads)
          ∙ ap (λ (x : Replay FlatState). Some x.flat) agree.0,
      agree.1,
    ))

-- a log is full where it is without room
full_so : (terms : Terms) (log : Log) → IsFull terms (log_without_room log) → IsFull terms log
full_so terms log full =
    subst (λ n. terms.log_limit < n + size_in (unit_of log) (length log.streams) greatest) ((order_sees_no_room log).size_is (unit_of log))
    (subst (λ n. terms.log_limit < size_of_log (unit_of log) (log_without_room log).streams + size_in (unit_of log) n greatest)
    (length-map log.streams stream_without_room) full)

-- a recording of the kind that is asked for
pub as_asked : (asked free : Bool) (start : Plain) (after : World) (log : Log) (ended : Final) (journal turns : List (ℕ × ℕ)) → asked ≡ free
    → RecordsAsAsked free start after log ended journal turns → RecordsAsAsked asked start after log ended journal turns
as_asked asked free start after log ended journal turns same is =
    subst (λ (kind : Bool). RecordsAsAsked kind start after log ended journal turns) (sym same) is

-- a recording of either kind is right, and never cut
right_so : (free : Bool) (start : Plain) (after : World) (log : Log) (ended : Final) (journal turns : List (ℕ × ℕ))
    (is : RecordsAsAsked free start after log ended journal turns) → IsRightBy start is.given log journal turns is.at
right_so true start after log ended journal turns is = freely_is_right start after log ended journal turns is
right_so false start after log ended journal turns is = rounds_are_right start after log ended journal turns is

never_cut : (free : Bool) (start : Plain) (after : World) (log : Log) (ended : Final) (journal turns : List (ℕ × ℕ))
    → RecordsAsAsked free start after log ended journal turns → log.cause ≢ causes.Cut
never_cut true start after log ended journal turns is = freely_is_not_cut start after log ended journal turns is
never_cut false start after log ended journal turns is = rounds_are_not_cut start after log ended journal turns is

-- and is what a board comes to
closed_so : (free : Bool) (turns : List (ℕ × ℕ)) (terms : Terms) (b : Board FlatState) (r : RecordingEnd FlatState) → KindOf free turns terms b r
    → (last : Board FlatState) × (r ≡ comes_to the_machine terms last)
closed_so true turns terms b r made = (made.last, sym made.comes)
closed_so false turns terms b r made = (made.closed, made.recorded)

-- What a recording that is asked for comes to.
module _ (w : Wish) (image : Image) (o p : World) (log : Log) (ended : Final) (journal turns : List (ℕ × ℕ))
    (is : RecordsAsAsked w.free (begun w image o) p log ended journal turns) where
  abbrev right : IsRightBy (begun w image o) is.given log journal turns is.at
  right = right_so w.free (begun w image o) p log ended journal turns is

  abbrev end : Replay FlatState
  end = right.right.end

  number : length log.streams ≡ w.harts
  number = right.right.harts_are ∙ length-map-range_with_len (λ id. hart_at_start id w.harts image.pages image.entry) 0 w.harts

  pub replayable : IsReplayable log image
  replayable = record { orderly = right.right.orderly; whole = is.limits.whole; pages = ap (λ (l : Log). l.pages) right.right.terms_are }

  full : EndsFull log image w.harts (order_of journal) end
  full = right.right.obeyed

  done : IsOutcome (board (unit_of log)) log (flat_at_start image (length log.streams)) (Done is.at)
  done =
      orders_tell_outcome log image (order_of journal) end (Done is.at) replayable
      (subst (λ n. EndsFull log image n (order_of journal) end) (sym number) full) right.right.done

  replayed : IsOutcome (board (unit_of log)) log (flat_at_start image w.harts) (Done end.flat)
  replayed =
      subst (λ n. IsOutcome (board (unit_of log)) log (flat_at_start image n) (Done end.flat)) number
      (subst (λ s. IsOutcome (board (unit_of log)) log (flat_at_start image (length log.streams)) (Done s)) (sym right.right.ended) done)

  final : ended ≡ final_of end.flat log.cause
  final = is.ended_is ∙ ap (λ s. final_of s log.cause) (sym right.right.ended)

  pub has_report : IsReportable ended
  has_report = subst IsReportable (sym is.ended_is) (reportable log image replayable is.at done)

  -- its replay is done at its end
  pub ends_recorded : EndsAt log image ended
  ends_recorded = record { orderly = right.right.orderly; state = is.at; done = done; end_is = is.ended_is }

  pub can_be_written : in_range log ≡ true
  can_be_written = right.range

  answered : Answered o p log ended.sent
  answered =
      let taken = right.right.taken in
      record {
        answers = λ tells. (
          taken.asked,
          is.gives.answers tells ∙ ap (λ a. o.console.answers ++ a) (taken.answers_are ∙ append-nil taken.asked),
          taken.agree.console,
        );
        times = λ tells. (
          taken.times,
          is.gives.times tells ∙ ap (λ a. o.clock.answers ++ a) (taken.times_are ∙ append-nil taken.times),
          taken.agree.clock,
        );
        taken = is.taken;
      }

  ends : EndsBy (begun w image o) log is.at
  ends =
      let at = at_end log image replayable is.at done in
      let so = agrees_so log is.at (subst (λ s. cause_agrees (board (unit_of log)) log s ≡ true) at.1 at.0) in
      let Limit : ℕ → ℕ → Type 0 = λ harts limit.
      (log.cause ≡ causes.Limit) ↔ ((is.at.devices.stop ≡ None) × ((h : ℕ) → h < harts → slice_index is.at.counts h ≡ limit)) in
      record {
        stop = so.0;
        limit = subst (λ n. Limit w.harts n) (ap (λ (l : Log). l.limit) right.right.terms_are) (subst (λ n. Limit n log.limit) number so.1);
        full = λ full. full_so (terms_of (begun w image o)) log (right.tells.full full);
        fault = λ fault. subst (λ n. IsAtConsole (terms_of (begun w image o)) n is.at) (length-map log.streams stream_without_room ∙ number)
            (right.tells.fault fault);
        cut = never_cut w.free (begun w image o) p log ended journal turns is;
      }

  pub comes : Comes w image o p log ended journal turns
  comes = record { run = is; answered = answered; ends = ends; range = right.range; size = right.size }

  -- the same, told of the state to which the journal leads
  abbrev told_there : Comes w image o p log (final_of end.flat log.cause) journal turns
  told_there = record {
    run = record {
      limits = is.limits;
      given = is.given;
      gives = is.gives;
      at = is.at;
      ended_is = ap (λ s. final_of s log.cause) right.right.ended;
      recorded = is.recorded;
      faults = is.faults;
      taken = subst (λ (e : Final). Takes e.sent o.console p.console) final is.taken;
    };
    answered = subst (λ (e : Final). Answered o p log e.sent) final answered;
    ends = ends;
    range = right.range;
    size = right.size;
  }

  -- its log says what was asked for, and each stream ends at its hart's count
  head : image.pages ≡ w.pages → HasHead w image end.flat log
  head same =
      let made = closed_so w.free turns _ _ _ (is.recorded spent (λ fault. (refl, refl))) in
      let closed = made.0 in
      let there : closed.at.flat ≡ end.flat = sym (ap (λ (r : RecordingEnd FlatState). r.ended) made.1) ∙ sym right.right.ended in
      let streams = ap (λ (r : RecordingEnd FlatState). r.log.streams) made.1 in
      let long : length closed.streams ≡ w.harts =
      sym (length-map (enumerate_from 0 closed.streams) _ ∙ length-enumerate_from 0 closed.streams) ∙ sym (ap length streams)
      ∙ length-map log.streams stream_without_room ∙ number in
      record {
        pages = ap (λ (l : Log). l.pages) right.right.terms_are ∙ same;
        limit = ap (λ (l : Log). l.limit) right.right.terms_are;
        start_is = ap (λ (l : Log). l.image) right.right.terms_are;
        harts = number;
        streams = λ h inside.
            subst (λ (s : FlatState). (entries : List Entry) × (stream log h ≡ entries ++ End (slice_index s.counts h) ∷ [])) there
            (stream_ended (stream log h) (stream_in closed.streams h) (slice_index closed.at.flat.counts h)
            (sym ((order_sees_no_room log).streams_are h) ∙ ap (λ ss. stream_in ss h) streams
            ∙ ended_at (slice_index closed.at.flat.counts) closed.streams h (omega (arith, inside, long))));
      }

keeps : (w : Wish) (file : List ℕ) (log : Log) (ended : Final) (journal turns : List (ℕ × ℕ)) (text : List ℕ) (fault : Bool) (s t : SeenShelf) (o p : World)
    → IsFetched files.Image w.image s file → broken_rule w.pages file ≡ None
    → RecordsAsAsked w.free (begun w (image_of w.pages file) o) p log ended journal turns
    → HoldsNow w (spelling log) (ended.memory ++ ended.sent) s t → length (spelling log) ≡ size_of_log (unit_of log) log.streams
    → reading (spelling log) ≡ Ok (log_without_room log) → text ≡ report ended → fault ≡ is_fault ended.cause
    → KeepsRecording w text fault s t o p
keeps w file log ended journal turns text fault s t o p fetched accepted is holds long again told fault_is =
    let image = image_of w.pages file in
    let final_is = final w image o p log ended journal turns is in
    let size = (right w image o p log ended journal turns is).size in
    let there = end w image o p log ended journal turns is in
    let full_there = full w image o p log ended journal turns is in
    record {
      file = file;
      fetched = fetched;
      accepted = accepted;
      log = log;
      journal = journal;
      turns = turns;
      end = there;
      head = head w image o p log ended journal turns is refl;
      comes = told_there w image o p log ended journal turns is;
      ends_there = sym (right w image o p log ended journal turns is).right.ended;
      orderly = (right w image o p log ended journal turns is).right.orderly;
      full = full_there;
      lean = (right w image o p log ended journal turns is).lean;
      every = every log image (replayable w image o p log ended journal turns is) w.harts (order_of journal) there
          (number w image o p log ended journal turns is) full_there;
      replayed = replayed w image o p log ended journal turns is;
      kept = subst (λ (e : Final). HoldsNow w (spelling log) (e.memory ++ e.sent) s t) final_is holds;
      within = omega (arith, long, size);
      again = again;
      reported = told ∙ ap report final_is;
      fault_is = fault_is ∙ ap (λ (e : Final). is_fault e.cause) final_is;
    }

holds_since : (w : Wish) (log dump : List ℕ) (s m t : SeenShelf) → IsUntouched s m → ToldBefore m.tells t.tells → HoldsNow w log dump m t
    → HoldsNow w log dump s t
holds_since w log dump s m t same tells holds = record {
  log_held = holds.log_held;
  dump_held = holds.dump_held;
  others = λ told n other no_dump. holds.others told n other no_dump ∙ same.held (tells told) n;
  faults = holds.faults ∙ same.faults;
}

each_same : (dump : Option (List ℕ)) (s m t : SeenShelf) → ((n : List ℕ) → m.held n ≡ s.held n) → IfSome dump (λ name. t.held name ≡ m.held name)
    → IfSome dump (λ name. t.held name ≡ s.held name)
each_same None s m t same held = tt
each_same (Some name) s m t same held = held ∙ same name

fails_since : (w : Wish) (log : List ℕ) (s m t : SeenShelf) → IsUntouched s m → ToldBefore m.tells t.tells → FailsToKeep w log m t → FailsToKeep w log s t
fails_since w log s m t same tells fails = record {
  rose = subst (λ n. Rose n t.faults) same.faults fails.rose;
  others = λ told n other no_dump. fails.others told n other no_dump ∙ same.held (tells told) n;
  log_first = ⊎_elim (λ dump. inl (λ told. each_same w.dump s m t (same.held (tells told)) (dump told))) (λ kept. inr kept) fails.log_first;
}

pub untouched : (s m t : SeenShelf) → IsUntouched s m → ToldBefore m.tells t.tells → IsUntouched m t → IsUntouched s t
untouched s m t same tells kept = record {
  held = λ told n. kept.held told n ∙ same.held (tells told) n;
  faults = kept.faults ∙ same.faults;
}

-- a run that was recorded, and what keeping it came to
records : (w : Wish) (s m t : SeenShelf) (o p : World) (image : Image) (log : Log) (ended : Final)
    (journal turns : List (ℕ × ℕ)) (ending : Ending)
    → ImageAs w s m (Ok image) → ToldBefore m.tells t.tells → RecordsAsAsked w.free (begun w image o) p log ended journal turns
    → KeepsAs w log ended m t ending → RecordsAs w s t o p ending
records w s m t o p image log ended journal turns NoMemory read tells is kept =
    let file = read.1 in
    (untouched s m t read.0 tells kept, inr (record { file = file.0; fetched = file.1; accepted = file.2 }, (is.given, is.gives)))
records w s m t o p image log ended journal turns ShelfFault read tells is kept =
    let file = read.1 in
    inr (record {
      file = file.0;
      fetched = file.1;
      accepted = file.2;
      log = log;
      ended = ended;
      journal = journal;
      turns = turns;
      comes = subst (λ i. Comes w i o p log ended journal turns) file.3 (comes w image o p log ended journal turns is);
      fails = fails_since w (spelling log) s m t read.0 tells kept;
    })
records w s m t o p image log ended journal turns (Kept text fault) read tells is kept =
    let file = read.1 in
    keeps w file.0 log ended journal turns text.items fault s t o p file.1 file.2
    (subst (λ i. RecordsAsAsked w.free (begun w i o) p log ended journal turns) file.3 is)
    (holds_since w (spelling log) (ended.memory ++ ended.sent) s m t read.0 tells kept.0) kept.1 kept.2 kept.3 kept.4
records w s m t o p image log ended journal turns (Usage place) read tells is kept = absurd kept
records w s m t o p image log ended journal turns (TooLong file) read tells is kept = absurd kept
records w s m t o p image log ended journal turns (ImageRefused rule) read tells is kept = absurd kept
records w s m t o p image log ended journal turns (Malformed offset rule) read tells is kept = absurd kept
records w s m t o p image log ended journal turns (OtherImage named has) read tells is kept = absurd kept
records w s m t o p image log ended journal turns (Disorderly rule hart entry) read tells is kept = absurd kept
records w s m t o p image log ended journal turns (Diverged hart count rule) read tells is kept = absurd kept
records w s m t o p image log ended journal turns (Listed listing judged) read tells is kept = absurd kept

-- and where console and clock come back from that as they were
pub records_so : (w : Wish) (s m t : SeenShelf) (o p q : World) (image : Image) (log : Log) (ended : Final)
    (journal turns : List (ℕ × ℕ)) (ending : Ending)
    → ImageAs w s m (Ok image) → ToldBefore m.tells t.tells → RecordsAsAsked w.free (begun w image o) p log ended journal turns
    → KeepsAs w log ended m t ending → q ≡ p → RecordsAs w s t o q ending
records_so w s m t o p q image log ended journal turns ending read tells is kept same =
    subst (λ after. RecordsAs w s t o after ending) (sym same) (records w s m t o p image log ended journal turns ending read tells is kept)

-- an image that isn't there for the run
pub refuses : (w : Wish) (s t : SeenShelf) (o : World) (ending : Ending) → ImageAs w s t (Err ending) → RecordsAs w s t o o ending
refuses w s t o (TooLong files.Image) read = (read, refl)
refuses w s t o (TooLong files.Log) read = absurd read
refuses w s t o (ImageRefused rule) read = (read.0, (read.1, refl))
refuses w s t o NoMemory read = (read, inl refl)
refuses w s t o ShelfFault read = inl (read, refl)
refuses w s t o (Usage place) read = absurd read
refuses w s t o (Malformed offset rule) read = absurd read
refuses w s t o (OtherImage named has) read = absurd read
refuses w s t o (Disorderly rule hart entry) read = absurd read
refuses w s t o (Diverged hart count rule) read = absurd read
refuses w s t o (Kept text fault) read = absurd read
refuses w s t o (Listed listing judged) read = absurd read
