-- What a stage at which no hart can go comes to, as it is told.
use Rattle.std.proofs.Common.{◌≡◌, inl, inr, ℕ, ◌+◌, ◌<◌, ◌==◌, ◌&&◌, not, Bool, true, false, length, Option, Some, None, slice_get}
use Rattle.std.proofs.Common.{is_some, refl, sym, ap, ap₂, ◌∙◌, subst, arith, if◌then◌else◌}
use Rattle.std.specs.List.{list_all}
use Rattle.std.specs.Option.{option_map}
use Rattle.std.proofs.lemmas.Bool.{cases_eq}
use Rattle.std.proofs.lemmas.Option.{get_or_from_slice_get, slice_get_within}
use Rattle.shared_types.proofs.Lists.{found_at, all_there, all_at}
use Rattle.elf_image.specs.Image.{Image}
use Rattle.log_entry.specs.Parts.{unit_of}
use Rattle.orders_law.proofs.Below.{all_below}
use Rattle.order_rules.specs.Places.{harts}
use Rattle.rv_words.specs.declared.shared.Cause.{Cause}
use Rattle.device_board.specs.State.{Devices}
use Rattle.flat_machine.specs.State.{FlatState}
use Rattle.flat_machine.specs.Runs.{final_of}
use Rattle.flat_machine.specs.declared.results.Final.{Final}
use Rattle.replay_model.specs.Board.{board}
use Rattle.replay_model.specs.State.{Replay}
use Rattle.replay_model.specs.Items.{next_item, verdict}
use Rattle.replay_model.specs.Outcome.{Done, Diverged, is_stop, is_limit, same, rule_of, diverged, outcome_at}
use Rattle.run_model.specs.Run.{Run}
use Rattle.replay_core.specs.declared.replaying.Replaying.{Replaying}
use Rattle.replay_core.specs.declared.went.Went.{Went}
use Rattle.replay_core.specs.declared.outcome.Outcome.{Outcome as Told}
use Rattle.replay_core.specs.declared.outcome.Outcome.TheVariants as told
use Rattle.replay_core.specs.Items.{IsStill, IsStuck, rule_in}
use Rattle.replay_core.specs.Ends.{IsFirstOf, IsOutcomeOf}
use Rattle.replay_core.specs.Standing.{IsAt, IsSame, IsSomewhere, AnswersAt, CanGoNowhere, FindsDiverged, IsUndiverged, TellsDiverged, AgreesOnCause}
use Rattle.replay_core.specs.Standing.{ComesTo, EndsAt}
use Rattle.replay_core.proofs.OutcomeAtEnd.{divergence, diverged_comes, each_below, ended_comes}
use Rattle.replay_core.proofs.StagesGoOn.{same_at, same_back, same_log}
use Rattle.replay_core.proofs.EndsTell.{ends_tell}
use Rattle.replay_core.proofs.Verdicts.{first_found, none_found, rule_is, still}
use Rattle.replay_ends.proofs.Outcomes.{no_answers, no_rule}

-- a stage at which no hart can go, by the answer of a hart
module _ (stage : Replaying) (h : ℕ) (answer : Went) (stuck : CanGoNowhere stage) (answers : AnswersAt stage h answer) where
  pub nothing_made : IsSomewhere stage → h < length stage.board.log.streams → IsStill answer
  nothing_made x l =
      let log = stage.board.log in
      subst IsStill (sym (answers x.0 x.1.0 x.1.1))
      (still (next_item (board (unit_of stage.board.log)) stage.board.log x.1.0 h) (verdict (board (unit_of stage.board.log)) stage.board.log x.1.0 h)
      (stuck x.0 x.1.0 x.1.1 h l))

  rule_told : (image : Image) (s : Replay FlatState) → IsAt image stage s → h < length stage.board.log.streams
      → rule_in answer ≡ rule_of (verdict (board (unit_of stage.board.log)) stage.board.log s h)
  rule_told image s at l =
      ap rule_in (answers image s at)
      ∙ rule_is (next_item (board (unit_of stage.board.log)) stage.board.log s h) (verdict (board (unit_of stage.board.log)) stage.board.log s h)
      (stuck image s at h l)

  pub not_diverged : rule_in answer ≡ None → h < length stage.board.log.streams → IsUndiverged stage h
  not_diverged none l image s at = sym (rule_told image s at l) ∙ none

  pub first_of_all : (rule : ℕ) → rule_in answer ≡ Some rule → h < length stage.board.log.streams → ((g : ℕ) → g < h → IsUndiverged stage g)
      → FindsDiverged stage (Some (h, rule))
  first_of_all rule is l none image s at =
      first_found (divergence stage.board.log s) (length stage.board.log.streams) h (h, rule) l
      (ap (option_map (λ k. (h, k))) (sym (rule_told image s at l) ∙ is))
      (λ g m. ap (option_map (λ k. (g, k))) (none g m image s at))

pub none_of_all : (stage : Replaying) → ((g : ℕ) → g < length stage.board.log.streams → IsUndiverged stage g) → FindsDiverged stage None
none_of_all stage none image s at =
    none_found (divergence stage.board.log s) (length stage.board.log.streams) (λ g m. ap (option_map (λ k. (g, k))) (none g m image s at))

-- whether all harts are at the limit
same_tests : (a b : Bool) → (a ≡ true → b ≡ true) → (b ≡ true → a ≡ true) → a ≡ b
same_tests true b on back = sym (on refl)
same_tests false true on back = back refl
same_tests false false on back = refl

pub limits_are : (image : Image) (stage : Replaying) (s : Replay FlatState) → IsAt image stage s
    → list_all (λ (r : Run). r.count == stage.board.log.limit) stage.runs.items
    ≡ list_all (λ h. (board (unit_of stage.board.log)).count s.flat h == stage.board.log.limit) (harts stage.board.log)
limits_are image stage s at =
    same_tests (list_all of_run stage.runs.items) (list_all of_hart (harts stage.board.log))
    (λ all. all_below of_hart (length stage.board.log.streams) (λ h l.
    let r = found_at stage.runs.items h (let runs = at.runs in omega (arith, l, runs)) in
    ap (λ n. n == stage.board.log.limit) (get_or_from_slice_get s.flat.counts h r.0.count 0 (at.agree h r.0 r.1).count)
    ∙ all_at of_run stage.runs.items h r.0 all r.1))
    (λ all. all_there of_run stage.runs.items (λ h r is.
    let l = slice_get_within stage.runs.items h r is in
    ap (λ n. n == stage.board.log.limit) (sym (get_or_from_slice_get s.flat.counts h r.count 0 (at.agree h r is).count))
    ∙ each_below of_hart (length stage.board.log.streams) all h (let runs = at.runs in omega (arith, l, runs))))
  where
    of_run : Run → Bool
    of_run r = r.count == stage.board.log.limit

    of_hart : ℕ → Bool
    of_hart h = (board (unit_of stage.board.log)).count s.flat h == stage.board.log.limit

pub cause_is : (stage : Replaying) (cause : Cause) (stopped at_limit agrees : Bool)
    → agrees ≡ (same (is_stop cause) stopped && same (is_limit cause) (not stopped && at_limit)) → cause ≡ stage.board.log.cause
    → stopped ≡ is_some stage.board.backing.devices.devices.stop → at_limit ≡ list_all (λ (r : Run). r.count == stage.board.log.limit) stage.runs.items
    → AgreesOnCause stage agrees
cause_is stage cause stopped at_limit agrees is cause_same stop all image s at =
    is ∙ ap (λ k. same (is_stop k) stopped && same (is_limit k) (not stopped && at_limit)) cause_same
    ∙ ap₂ (λ a b. same (is_stop stage.board.log.cause) a && same (is_limit stage.board.log.cause) (not a && b))
    (stop ∙ ap (λ (d : Devices). is_some d.stop) at.stands.backs.devices_are) (all ∙ limits_are image stage s at)

-- what is told
diverged_told : (image : Image) (stage : Replaying) (s : Replay FlatState) (hart why : ℕ) (answer : Told) → IsAt image stage s → CanGoNowhere stage
    → outcome_at (board (unit_of stage.board.log)) stage.board.log s ≡ Some (Diverged hart ((board (unit_of stage.board.log)).count s.flat hart) why s.flat)
    → TellsDiverged stage hart why answer → IsOutcomeOf stage.board.log image answer
diverged_told image stage s hart why answer at stuck comes told = (
  Diverged hart ((board (unit_of stage.board.log)).count s.flat hart) why s.flat,
  (ends_tell image stage s (Diverged hart ((board (unit_of stage.board.log)).count s.flat hart) why s.flat) at (stuck image s at) comes, told image s at),
)

pub tells_first : (stage : Replaying) (hart why : ℕ) (answer : Told) → CanGoNowhere stage → FindsDiverged stage (Some (hart, why))
    → TellsDiverged stage hart why answer
    → ComesTo stage answer
tells_first stage hart why answer stuck found told image s at =
    let first = found image s at in
    diverged_told image stage s hart why answer at stuck (diverged_comes stage.board.log s hart why first.0 first.1) told

ended : (image : Image) (stage : Replaying) (s : Replay FlatState) (agrees : Bool) → IsAt image stage s → CanGoNowhere stage → FindsDiverged stage None
    → AgreesOnCause stage agrees → outcome_at (board (unit_of stage.board.log)) stage.board.log s
    ≡ Some (if agrees then Done s.flat else Diverged 0 ((board (unit_of stage.board.log)).count s.flat 0) 7 s.flat)
ended image stage s agrees at stuck found cause =
    let st = at.stands in
    ended_comes stage.board.log s image at.stands.order at.stands.replayable.orderly at.stands.obeys (stuck image s at)
    (λ h l. no_rule h (rule_of (verdict (board (unit_of stage.board.log)) stage.board.log s h))
    (no_answers (divergence stage.board.log s) (length stage.board.log.streams) (found image s at) h l))
    agrees (sym (cause image s at))

pub tells_cause : (stage : Replaying) (answer : Told) → CanGoNowhere stage → FindsDiverged stage None → AgreesOnCause stage false
    → TellsDiverged stage 0 7 answer
    → ComesTo stage answer
tells_cause stage answer stuck found cause told image s at =
    diverged_told image stage s 0 7 answer at stuck (ended image stage s false at stuck found cause) told

pub tells_done : (stage : Replaying) (end : Final) → CanGoNowhere stage → FindsDiverged stage None → AgreesOnCause stage true → EndsAt stage end
    → ComesTo stage (told.Done end)
tells_done stage end stuck found cause is image s at =
    (Done s.flat, (ends_tell image stage s (Done s.flat) at (stuck image s at) (ended image stage s true at stuck found cause), ap told.Done (is image s at)))

-- and of a stage that is the same
pub comes_back : (old new : Replaying) (answer : Told) → IsSame old new → ComesTo new answer → ComesTo old answer
comes_back old new answer is comes image s at =
    subst (λ log. IsOutcomeOf log image answer) (same_log old new is) (comes image s (same_at image old new s is at))

pub stuck_on : (old new : Replaying) → IsSame old new → CanGoNowhere old → CanGoNowhere new
stuck_on old new is stuck image s at =
    subst (λ log. IsStuck log s) (sym (same_log old new is)) (stuck image s (same_at image new old s (same_back old new is) at))

pub found_on : (old new : Replaying) (found : Option (ℕ × ℕ)) → IsSame old new → FindsDiverged old found → FindsDiverged new found
found_on old new found is finds image s at =
    subst (λ log. IsFirstOf found (diverged (board (unit_of log)) log s)) (sym (same_log old new is))
    (finds image s (same_at image new old s (same_back old new is) at))

undiverged_on : (old new : Replaying) (h : ℕ) → IsSame old new → IsUndiverged old h → IsUndiverged new h
undiverged_on old new h is none image s at =
    subst (λ log. rule_of (verdict (board (unit_of log)) log s h) ≡ None) (sym (same_log old new is))
    (none image s (same_at image new old s (same_back old new is) at))

-- a stage at which no hart can go, and one that is the same, with the answer of a hart there
module _ (old now : Replaying) (h : ℕ) (answer : Went) (is : IsSame old now) (stuck : CanGoNowhere old) (answers : AnswersAt now h answer)
    (there : h < length old.board.log.streams) where
  now_there : h < length now.board.log.streams
  now_there = subst (λ log. h < length log.streams) (sym (same_log old now is)) there

  pub answer_is_still : IsSomewhere old → IsStill answer
  answer_is_still x =
      nothing_made now h answer (stuck_on old now is stuck) answers (x.0, (x.1.0, same_at x.0 old now x.1.0 is x.1.1)) now_there

  pub finds_first : (rule : ℕ) → rule_in answer ≡ Some rule → ((g : ℕ) → g < h → IsUndiverged old g) → FindsDiverged old (Some (h, rule))
  finds_first rule diverged none =
      found_on now old (Some (h, rule)) (same_back old now is)
      (first_of_all now h answer (stuck_on old now is stuck) answers rule diverged now_there (λ g m. undiverged_on old now g is (none g m)))

  pub finds_none_more : rule_in answer ≡ None → ((g : ℕ) → g < h → IsUndiverged old g) → (g : ℕ) → g < h + 1 → IsUndiverged old g
  finds_none_more quiet none g less = elim (cases_eq g h) [
    | inl same ↦
        subst (IsUndiverged old) (sym same)
        (undiverged_on now old h (same_back old now is) (not_diverged now h answer (stuck_on old now is stuck) answers quiet now_there))
    | inr d ↦ none g (omega (arith, less, d))
  ]

pub told_at : (image : Image) (stage : Replaying) (s : Replay FlatState) (hart why count : ℕ) (end : Final) (r : Run) → IsAt image stage s
    → slice_get stage.runs.items hart ≡ Some r → count ≡ r.count → end ≡ final_of s.flat stage.board.log.cause
    → told.Diverged hart count why end
    ≡ told.Diverged hart ((board (unit_of stage.board.log)).count s.flat hart) why (final_of s.flat stage.board.log.cause)
told_at image stage s hart why count end r at there is ends =
    ap₂ (λ n e. told.Diverged hart n why e) (is ∙ sym (get_or_from_slice_get s.flat.counts hart r.count 0 (at.agree hart r there).count)) ends
