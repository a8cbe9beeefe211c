-- What a board comes to is a recording, and what holds of it.
use Rattle.std.proofs.Common.{◌≡◌, ℕ, ◌++◌, ◌≤◌, true, List, Option, Some, None, unwrap_or, refl, sym, ap, ap₂, ◌∙◌, subst}
use Rattle.std.proofs.lemmas.List.FromFn.{length-map-range_with_len}
use Rattle.rv_words.specs.declared.shared.Cause.{Cause}
use Rattle.rv_words.specs.declared.shared.Cause.TheVariants.{Limit, Fault}
use Rattle.elf_image.specs.Image.{Image}
use Rattle.log_entry.specs.declared.log.Log.{Log}
use Rattle.log_entry.specs.Parts.{unit_of}
use Rattle.log_entry.specs.Range.{in_range}
use Rattle.log_entry.specs.Room.{log_without_room}
use Rattle.log_entry.specs.Size.{frame_size}
use Rattle.rv_hart.specs.Moves.{hart_at_start}
use Rattle.flat_machine.specs.State.{FlatState, flat_at_start}
use Rattle.flat_machine.specs.Runs.{final_of}
use Rattle.flat_machine.specs.declared.results.Final.{Final}
use Rattle.turn_model.specs.Board.{Board, Supply, Terms}
use Rattle.turn_model.specs.Lists.{RecordingEnd, comes_to}
use Rattle.turn_model.specs.Laws.{IsRight, OfHarts}
use Rattle.turn_model.specs.Rounds.{IsRecordedInRounds}
use Rattle.turn_model.proofs.RightRecordings.{recordings_are_right}
use Rattle.turn_model.proofs.RightRecordings as right
use Rattle.lean_journals.specs.Laws.{IsLeanFrom}
use Rattle.lean_journals.proofs.LeanRecordings.{recordings_are_lean, rounds_are_lean}
use Rattle.room_laws.proofs.Judged.{order_sees_no_room}
use Rattle.room_laws.proofs.Recordings.{recordings_see_no_room, lean_sees_no_room}
use Rattle.turn_laws.specs.EndLaws.{AreInLimits, CauseTells}
use Rattle.turn_laws.specs.Supplies.{followed_by}
use Rattle.turn_laws.proofs.Causes.{lists_cut, rounds_not_cut}
use Rattle.turn_laws.proofs.EndsKept.{list_tells, rounds_tell, list_in_range, rounds_in_range}
use Rattle.turn_laws.proofs.GoingOn.{recorded_one}
use Rattle.crew_parts.specs.Boards.{Plain, World, EndsAs, the_machine, board_of, plain_at_start, spent, state_of, terms_of}
use Rattle.crew_parts.specs.Turns.{CountsFaults}
use Rattle.crew_parts.proofs.Laws.{first_boards}
use Rattle.recorded_turns.specs.Laws.{IsTaken}
use Rattle.recorded_turns.specs.Recordings.{ByList, InRounds, IsRightBy, Records, board_before, recording}
use Rattle.recorded_turns.specs.Recordings as laws
use Rattle.crew_parts.proofs.Turned.{then_spent}

-- without a cause the run ended by the limit
counts_by : (o : Option Cause) (x y : ℕ) → CountsFaults None o x y → CountsFaults None (Some (unwrap_or o Limit)) x y
counts_by None x y e = e
counts_by (Some cause) x y e = e

pub comes_out : {Kind : Terms → Board FlatState → RecordingEnd FlatState → Type 0} (image : Image) (harts limit log_limit : ℕ) (world : World) (q : Plain)
    (log : Log) (ended : Final) (journal turns : List (ℕ × ℕ))
    → (let start = plain_at_start image harts limit log_limit world in
    AreInLimits (terms_of start) image harts → terms_of q ≡ terms_of start
    → IsTaken start q (λ given left. Kind (terms_of start) (board_of start given) (comes_to the_machine (terms_of start) (board_of q left)))
    → EndsAs q log ended journal turns → Records Kind start q.now log ended journal turns)
comes_out {Kind} image harts limit log_limit world q log ended journal turns limits same taken ends = record {
  limits = limits;
  given = taken.given;
  gives = taken.gives;
  at = (state_of q).flat;
  ended_is = ends.ended_is;
  recorded = λ left fault.
      subst (λ b. Kind (terms_of start) b (recording log journal turns (state_of q).flat left))
      (first_boards image harts limit log_limit world (followed_by taken.given left)).0
      (subst (Kind (terms_of start) (board_of start (followed_by taken.given left))) (out left)
      (taken.so left (λ shut. fault (cause ∙ ap (λ o. unwrap_or o Limit) shut))));
  faults =
      subst (λ k. CountsFaults None (Some k) world.console.faults q.now.console.faults) (sym cause)
      (counts_by q.closed world.console.faults q.now.console.faults taken.faults);
  taken = λ tells.
      let b = taken.sent tells in
      b.1 ∙ ap (λ l. world.console.taken ++ l)
      (sym (ap (λ (f : Final). f.sent) ends.ended_is ∙ b.2
      ∙ ap (λ (s : Board FlatState). s.at.flat.devices.sent ++ b.0) (first_boards image harts limit log_limit world spent).0));
} where
  start : Plain
  start = plain_at_start image harts limit log_limit world

  cause : log.cause ≡ unwrap_or q.closed Limit
  cause = ap (λ (l : Log). l.cause) (ends.log_is spent)

  out : (left : Supply) → comes_to the_machine (terms_of start) (board_of q left) ≡ recording log journal turns (state_of q).flat left
  out left =
      ap (λ t. comes_to the_machine t (board_of q left)) (sym same)
      ∙ ap (λ l. record (comes_to the_machine (terms_of q) (board_of q left)) { log = l }) (sym (ends.log_is left))
      ∙ ap₂ (λ j t. record (recording log journal turns (state_of q).flat left) { journal = j; turns = t }) (sym ends.journal_is) (sym ends.turns_are)

-- what holds of the log without room holds of the log
right_by : (start : Plain) (given : Supply) (log : Log) (journal turns : List (ℕ × ℕ)) (at : FlatState) → AreInLimits (terms_of start) start.image start.harts
    → IsRight (terms_of start) given (flat_at_start start.image start.harts) (recording log journal turns at spent)
    → IsLeanFrom (flat_at_start start.image start.harts) (recording log journal turns at spent) → in_range (log_without_room log) ≡ true
    → CauseTells (terms_of start) (recording log journal turns at spent) → IsRightBy start given log journal turns at
right_by start given log journal turns at limits right lean range tells =
    let r = recording log journal turns at spent in
    let first = flat_at_start start.image start.harts in
    let now = recordings_see_no_room (terms_of start) given first r log refl right in
    let number = now.harts_are ∙ length-map-range_with_len (λ id. hart_at_start id start.harts start.image.pages start.image.entry) 0 start.harts in
    record {
      right = now;
      lean = lean_sees_no_room first r log refl lean;
      range = sym (order_sees_no_room log).range_is ∙ range;
      size = now.size (subst (λ n. frame_size (unit_of log) n ≤ start.log_limit) (sym number) limits.frame);
      tells = tells;
    }

-- and what is recorded with nothing left to give is recorded of what was given
alone : {Kind : Terms → Board FlatState → RecordingEnd FlatState → Type 0} (start : Plain) (after : World) (log : Log) (ended : Final)
    (journal turns : List (ℕ × ℕ)) (is : Records Kind start after log ended journal turns)
    → Kind (terms_of start) (board_before start is.given) (recording log journal turns is.at spent)
alone {Kind} start after log ended journal turns is =
    subst (λ o. Kind (terms_of start) (board_before start o) (recording log journal turns is.at spent)) (then_spent is.given)
    (is.recorded spent (λ fault. (refl, refl)))

pub lists_are_right : laws.ListsAreRight
lists_are_right start after log ended journal turns list is of =
    let terms = terms_of start in
    let r = recording log journal turns is.at spent in
    let made = alone {Kind = ByList list} start after log ended journal turns is in
    right_by start is.given log journal turns is.at is.limits
    (recordings_are_right terms start.image start.harts is.given list r refl of made)
    (recordings_are_lean terms start.image start.harts is.given list r is.limits.whole refl of made)
    (list_in_range terms start.image start.harts is.given refl is.limits.most_harts is.limits.whole is.limits list r of made)
    (list_tells terms start.image start.harts is.given refl is.limits.most_harts is.limits.whole list r of made)

pub rounds_are_right : laws.RoundsAreRight
rounds_are_right start after log ended journal turns is =
    let terms = terms_of start in
    let r = recording log journal turns is.at spent in
    let made = alone {Kind = InRounds} start after log ended journal turns is in
    right_by start is.given log journal turns is.at is.limits
    (right.rounds_are_right terms start.image start.harts is.given r refl made)
    (rounds_are_lean terms start.image start.harts is.given r is.limits.whole refl made)
    (rounds_in_range terms start.image start.harts is.given refl is.limits.most_harts is.limits.whole is.limits r made)
    (rounds_tell terms start.image start.harts is.given refl is.limits.most_harts is.limits.whole r made)

pub lists_are_cut : laws.ListsAreCut
lists_are_cut start after log ended journal turns list is of c listed =
    lists_cut (terms_of start) start.image start.harts is.given refl list c (recording log journal turns is.at spent) of listed
    (alone {Kind = ByList list} start after log ended journal turns is)

pub rounds_are_not_cut : laws.RoundsAreNotCut
rounds_are_not_cut start after log ended journal turns is =
    rounds_not_cut (terms_of start) start.image start.harts is.given refl (recording log journal turns is.at spent)
    (alone {Kind = InRounds} start after log ended journal turns is)

pub rounds_are_one : laws.RoundsAreOne
rounds_are_one start after then log other ended last journal turns rows others is also same =
    let one =
    recorded_one the_machine (terms_of start) (board_before start is.given) (recording log journal turns is.at spent)
    (recording other rows others also.at spent) (alone {Kind = InRounds} start after log ended journal turns is)
    (subst (λ o. IsRecordedInRounds the_machine (terms_of start) (board_before start o) (recording other rows others also.at spent)) (sym same)
    (alone {Kind = InRounds} start then other last rows others also)) in (
      ap (λ (r : RecordingEnd FlatState). r.log) one,
      is.ended_is ∙ ap₂ final_of (ap (λ (r : RecordingEnd FlatState). r.ended) one) (ap (λ (r : RecordingEnd FlatState). r.log.cause) one) ∙ sym also.ended_is,
      ap (λ (r : RecordingEnd FlatState). r.journal) one,
      ap (λ (r : RecordingEnd FlatState). r.turns) one,
    )
