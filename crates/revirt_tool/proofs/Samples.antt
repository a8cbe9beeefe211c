-- The guests of samples are images, and what a sample comes to.
use Rattle.std.proofs.Common.{◌≡◌, ℕ, ◌-◌, ◌^◌, true, true≢false, List, [], ◌∷◌, ◌++◌, length, None, Some, Ok, Err, refl, sym, ap, ap₂, ◌∙◌, subst}
use Rattle.std.specs.Prelude.{nat_lt}
use Rattle.std.proofs.lemmas.Bool.{ltb-true}
use Rattle.std.proofs.lemmas.Option.{none-some}
use Rattle.outside.specs.Clocks.{MemClockState, seen_of_clock}
use Rattle.outside.specs.Numbered.{one_more}
use Rattle.outside.specs.Seen.{Tells}
use Rattle.elf_image.specs.Image.{Image}
use Rattle.elf_image.specs.Rules.{broken_rule}
use Rattle.guest_maker.specs.Code.{code}
use Rattle.guest_maker.specs.File.{word, file_header, segment_place, segment_size, program_header, guest}
use Rattle.guest_maker.proofs.Sizes.{code_size}
use Rattle.flat_machine.specs.State.{FlatState}
use Rattle.flat_machine.specs.Runs.{final_of}
use Rattle.flat_machine.specs.declared.results.Final.{Final}
use Rattle.log_entry.specs.declared.log.Log.{Log}
use Rattle.log_entry.specs.Parts.{unit_of}
use Rattle.log_entry.specs.Room.{log_without_room}
use Rattle.log_format.specs.Format.{Bad}
use Rattle.log_format.specs.Grammar.{spelling, reading}
use Rattle.replay_model.specs.Board.{board}
use Rattle.replay_model.specs.Outcome.{Outcome, Done, IsOutcome}
use Rattle.replay_model.specs.Outcome.{Diverged as DivergedSo}
use Rattle.replay_law.specs.Laws.{first_flat}
use Rattle.replay_ends.proofs.Outcomes.{outcome_is_one}
use Rattle.report_view.specs.Report.{report}
use Rattle.report_view.specs.Summary.{summary}
use Rattle.recorded_turns.specs.Recordings.{RecordsInRounds}
use Rattle.revirt_tool.specs.Recordings.{begun}
use Rattle.revirt_tool.specs.Replays.{EndsAt, IsReportable, OutcomeAs}
use Rattle.revirt_tool.specs.Samples.{IsSample, IsSampled, IsSpelled, quiet, sample_board, sample_image, seen_by_hundreds}
use Rattle.revirt_tool.specs.declared.ending.Ending.{Ending}
use Rattle.revirt_tool.specs.declared.ending.Ending.TheVariants.{Disorderly, Diverged, NoMemory}
use Rattle.revirt_tool.proofs.Completeness.{same_ok, ok_isnt_err, not_judged}
use Rattle.revirt_tool.proofs.Recordings.{replayable, ends_recorded, comes, has_report}
use Rattle.revirt_tool.proofs.Replayed.{is_done, state_of}
use Rattle.revirt_tool.proofs.ReplaysDone.{alike_to}

-- a file of this form breaks no rule of a board with eight pages
accepted_by : (bytes : List ℕ) → length bytes ≡ 832 → broken_rule 8 (file_header ++ (program_header 832 ++ bytes)) ≡ None
unfolding word file_header segment_place segment_size program_header
accepted_by bytes size = rw size refl

pub sample_accepted : (number : ℕ) → broken_rule 8 (guest number 4) ≡ None
sample_accepted number =
    let size = code_size number 4 in
    ap (λ n. broken_rule 8 (file_header ++ (program_header n ++ code number 4))) size ∙ accepted_by (code number 4) size

-- the bytes of a log that was recorded
pub spelled_so : (image : Image) (log : Log) (ended : Final) (bytes : List ℕ) → IsSampled image log ended → bytes ≡ spelling log
    → reading bytes ≡ Ok (log_without_room log) → IsSpelled image ended bytes
spelled_so image log ended bytes of spelled again =
    let comes = of.comes in
    let can = replayable sample_board image (quiet 0 0) (quiet of.polls of.times) log ended of.journal of.turns comes.run in
    record {
      whole = can.whole;
      log = log;
      pages = can.pages;
      spelled = spelled;
      again = again;
      ends = ends_recorded sample_board image (quiet 0 0) (quiet of.polls of.times) log ended of.journal of.turns comes.run;
    }

-- what is read from them says the same, and comes to the same end
module _ (image : Image) (ended : Final) (bytes : List ℕ) (of : IsSpelled image ended bytes) where
  pub not_malformed : (bad : Bad) → reading bytes ≡ Err bad → ⊥
  not_malformed bad is = ok_isnt_err _ bad (sym of.again ∙ is)

  module _ (read : Log) (is : reading bytes ≡ Ok (log_without_room read)) where
    alike : log_without_room of.log ≡ log_without_room read
    alike = same_ok _ _ (sym of.again ∙ is)

    pub same_pages : read.pages ≡ image.pages
    same_pages = ap (λ (l : Log). l.pages) (sym alike) ∙ of.pages

    one_outcome : (o : Outcome FlatState) → IsOutcome (board (unit_of read)) read (first_flat read image) o → Done of.ends.state ≡ o
    one_outcome o comes =
        outcome_is_one of.log (first_flat of.log image) (Done of.ends.state) o of.ends.done (alike_to of.log read image o alike comes)

    same_end : (end : Final) → EndsAt read image end → end ≡ ended
    same_end end ends =
        ends.end_is
        ∙ sym (ap₂ final_of (ap state_of (one_outcome (Done ends.state) ends.done)) (ap (λ (l : Log). l.cause) alike))
        ∙ sym of.ends.end_is

    -- no replay of it ends otherwise, but for want of memory
    pub no_memory_alone : (ending : Ending) → OutcomeAs read image (Err ending) → ending ≡ NoMemory
    no_memory_alone (Disorderly rule hart entry) breaks = absurd (not_judged of.log read rule hart entry alike of.ends.orderly breaks)
    no_memory_alone (Diverged hart count rule) diverges =
        absurd (true≢false (ap is_done (one_outcome (DivergedSo hart count rule diverges.state) diverges.diverged)))
    no_memory_alone NoMemory none = refl
    no_memory_alone ending none = absurd none

    pub same_report : (text : List ℕ) (end : Final) → EndsAt read image end → text ≡ report end → text ≡ report ended
    same_report text end ends told = told ∙ ap report (same_end end ends)

-- that clock, which was asked so often
abbrev pub hundreds : ℕ → MemClockState
hundreds asked = record { first = 0; step = 100; given = asked }

-- its next answer
pub asked_once_more : (old new : MemClockState) (asked more : ℕ) → old ≡ hundreds asked → new ≡ record old { given = one_more old.given }
    → more ≡ one_more asked → new ≡ hundreds more
asked_once_more old new asked more is after counted =
    after ∙ ap (λ (o : MemClockState). record o { given = one_more o.given }) is ∙ ap hundreds (sym counted)

pub by_hundreds : (old new : MemClockState) (asked more time : ℕ) → old ≡ hundreds asked → new ≡ hundreds more
    → Tells time (seen_of_clock old) (seen_of_clock new) → Tells time (seen_by_hundreds asked) (seen_by_hundreds more)
by_hundreds old new asked more time is after told =
    subst (λ o. Tells time (seen_of_clock o) (seen_by_hundreds more)) is
    (subst (λ n. Tells time (seen_of_clock old) (seen_of_clock n)) after told)

-- the image isn't refused
pub not_refused : (number rule : ℕ) (file : List ℕ) → file ≡ guest number 4 → broken_rule 8 file ≡ Some rule → ⊥
not_refused number rule file is breaks = none-some rule (sym (ap (broken_rule 8) is ∙ sample_accepted number) ∙ breaks)

-- what was recorded over that console and that clock
pub sampled_so : (image : Image) (no_poll no_time polls times : ℕ) (log : Log) (ended : Final) (journal turns : List (ℕ × ℕ)) → no_poll ≡ 0 → no_time ≡ 0
    → nat_lt polls (2 ^ 64 - 1) ≡ true → nat_lt times (2 ^ 64 - 1) ≡ true
    → RecordsInRounds (begun sample_board image (quiet no_poll no_time)) (quiet polls times) log ended journal turns → IsSampled image log ended
sampled_so image no_poll no_time polls times log ended journal turns none never few seldom is = record {
  polls = polls;
  times = times;
  polls_told = ltb-true polls _ few;
  times_told = ltb-true times _ seldom;
  journal = journal;
  turns = turns;
  comes = comes sample_board image (quiet 0 0) (quiet polls times) log ended journal turns
      (subst (λ w. RecordsInRounds (begun sample_board image w) (quiet polls times) log ended journal turns) (ap₂ quiet none never) is);
}

pub sample_reportable : (image : Image) (log : Log) (ended : Final) → IsSampled image log ended → IsReportable ended
sample_reportable image log ended of =
    has_report sample_board image (quiet 0 0) (quiet of.polls of.times) log ended of.journal of.turns of.comes.run

pub sample_spelled : (image : Image) (log : Log) (ended : Final) (bytes slice : List ℕ) → IsSampled image log ended → bytes ≡ spelling log
    → reading bytes ≡ Ok (log_without_room log) → slice ≡ bytes → IsSpelled image ended slice
sample_spelled image log ended bytes slice of spelled again is =
    subst (IsSpelled image ended) (sym is) (spelled_so image log ended bytes of spelled again)

-- what sums it up
pub sample_so : (number size : ℕ) (image : Image) (log : Log) (ended : Final) (bytes reported one rounds text : List ℕ) → image ≡ sample_image number
    → IsSampled image log ended → bytes ≡ spelling log → size ≡ length bytes → reported ≡ report ended → one ≡ report ended → rounds ≡ report ended
    → text ≡ summary number ended size reported one rounds → IsSample number text
sample_so number size image log ended bytes reported one rounds text is of spelled long first second third told = record {
  log = log;
  ended = ended;
  recorded = subst (λ i. IsSampled i log ended) is of;
  replayed = subst (λ i. EndsAt log i ended) is
      (ends_recorded sample_board image (quiet 0 0) (quiet of.polls of.times) log ended of.journal of.turns of.comes.run);
  told = told
      ∙ ap₂ (λ n r. summary number ended n r one rounds) (long ∙ ap (λ (b : List ℕ). length b) spelled) first
      ∙ ap₂ (λ a b. summary number ended (length (spelling log)) (report ended) a b) second third;
}
