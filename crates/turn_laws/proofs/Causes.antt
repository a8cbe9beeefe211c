-- Which causes close a board in a turn, and so which a recording has.
use Rattle.std.proofs.Common.{◌≡◌, ◌≢◌, ℕ, ◌<◌, ◌≤◌, Bool, true, false, List, map, length, Option, Some, None, is_some, unwrap_or, refl, sym, ap}
use Rattle.std.proofs.Common.{◌∙◌, subst, arith, max, if◌then◌else◌, true≢false}
use Rattle.std.specs.List.{list_all}
use Rattle.std.specs.Option.{option_and_then}
use Rattle.std.proofs.lemmas.Bool.{or_parts}
use Rattle.std.proofs.lemmas.Option.{same_Some}
use Rattle.shared_types.proofs.Lists.{bound_to, mapped, is_nothing}
use Rattle.rv_words.specs.declared.shared.Cause.{Cause}
use Rattle.rv_words.specs.declared.shared.Cause.TheVariants.{Stop, Limit, Full, Cut, Fault}
use Rattle.log_entry.specs.declared.log.Entry.{Entry}
use Rattle.device_board.specs.Recording.{recorded_input}
use Rattle.elf_image.specs.Image.{Image}
use Rattle.flat_machine.specs.State.{FlatState}
use Rattle.replay_model.specs.Board.{board}
use Rattle.turn_model.specs.Board.{Board, Supply, Terms, unit_in, harts, closes, is_at_limit, is_over}
use Rattle.turn_model.specs.Laws.{IsPagedBoard, OfHarts, machine_in, first_board}
use Rattle.turn_model.specs.Ways.{entered}
use Rattle.turn_model.specs.Steps.{poll_at, yield_of, gain_of, touch_of}
use Rattle.turn_model.specs.Lists.{RecordingEnd, whole_leg, listed, closed_after, comes_to, recorded_by_list}
use Rattle.turn_model.specs.Rounds.{IsRecordedInRounds}
use Rattle.turn_model.specs.Turn.{turn}
use Rattle.turn_model.proofs.Entries.{after_entry}
use Rattle.turn_model.proofs.StepInvariants.{Preserves}
use Rattle.turn_model.proofs.Turns.{turn_keeps}
use Rattle.turn_laws.specs.Reached.{Begun, Turned, Favours}
use Rattle.turn_laws.specs.Laws.{IsReachable, IsOfTurn}
use Rattle.turn_laws.proofs.MoreAnswers.{turn_carried, listed_carried}
use Rattle.turn_laws.proofs.ReachedBoards.{faithful_board, reached_is, sound_of, can_make}
use Rattle.turn_laws.proofs.ReachedLists.{IsKept, listed_leads, closed_leads, rounds_lead, last_lead}
use Rattle.turn_model.proofs.Rounds.{each_below}

never_cut : (o : Option Cause) → IsOfTurn o → o ≢ Some Cut
never_cut o of e = subst IsOfTurn e of

-- the cause of the log
cause_not_cut : (o : Option Cause) → o ≢ Some Cut → unwrap_or o Limit ≢ Cut
cause_not_cut None n e = let bad : ⊥ = cc in absurd bad
cause_not_cut (Some cause) n e = n (ap Some e)

module _ (terms : Terms) (image : Image) (many : ℕ) (supply : Supply) (pages : terms.pages ≡ image.pages) where
  abbrev From : Board FlatState → Type 0
  From b = IsReachable terms image many supply b

  -- an open board stays open along the steps of a turn, until one of these causes closes it
  closes_so : (g : ℕ) (inside : g < many) → Preserves (machine_in terms) terms many terms.pages (IsPagedBoard many terms.pages)
      (faithful_board terms many terms.pages) g inside (λ c. c.closed ≡ None) (λ c. c.closed ≡ None) (λ order c. IsOfTurn c.closed)
  closes_so g inside = record {
    stays = λ b none. still b none;
    opens = λ b none still running. none;
    rests = λ b none. still b none;
    goes = λ b until none. still b none;
    holds = λ b n k low is none. still b none;
    fills = λ b low none. subst (λ o. IsOfTurn (Some (unwrap_or o Full))) (sym none) tt;
    fills_for = λ b k n other is none. subst (λ o. IsOfTurn (Some (unwrap_or o Full))) (sym none) tt;
    fails = λ b low none. subst (λ o. IsOfTurn (Some (unwrap_or o Fault))) (sym none) tt;
    favours = λ b none. none;
    polls =
        λ b d time left sound none room is made. entry (poll_at (machine_in terms) terms g b (max time ((board (unit_in terms)).time b.at.flat)))
        (record b { supply = left }) d sound.ordered.tidy.good made none;
    yields = λ b d n sound none room made. entry (yield_of (machine_in terms) terms g n b) b d sound.ordered.tidy.good made none;
    gains = λ b d n sound none room made. entry (gain_of (machine_in terms) terms g n b) b d sound.ordered.tidy.good made none;
    touches = λ b d word store answer now left rest sound none room access said is made.
        let e = touch_of (machine_in terms) terms g b (recorded_input word store ((board (unit_in terms)).time b.at.flat) now answer) in
        let x = entry e (record b { supply = rest }) d sound.ordered.tidy.good made none in
        (λ _. subst (λ o. IsOfTurn (Some (unwrap_or o Stop))) (sym x) tt, λ _. x);
  } where
    still : (b : Board FlatState) → b.closed ≡ None → IsOfTurn b.closed
    still b none = subst IsOfTurn (sym none) tt

    entry : (e : Entry) (c d : Board FlatState) → IsPagedBoard many terms.pages c.at.flat → entered (machine_in terms) terms g e c ≡ Some d
        → c.closed ≡ None → d.closed ≡ None
    entry e c d good is none =
        (after_entry (machine_in terms) terms many terms.pages (IsPagedBoard many terms.pages) (faithful_board terms many terms.pages) g e c d good is).closed
        ∙ none

  pub turn_closes : (g n : ℕ) (b d : Board FlatState) → From b → g < many → n ≤ whole_leg (machine_in terms) terms g b
      → turn (machine_in terms) terms g n b ≡ Some d → b.closed ≡ None → IsOfTurn d.closed
  turn_closes g n b d from inside most is none =
      let reached = reached_is terms image many supply pages b from in
      turn_keeps (machine_in terms) terms many terms.pages (IsPagedBoard many terms.pages) (faithful_board terms many terms.pages) g inside
      (λ c. c.closed ≡ None) (λ c. c.closed ≡ None) (λ order c. IsOfTurn c.closed) (λ c. IsOfTurn c.closed) (closes_so g inside) n b d
      (sound_of terms image many supply pages b reached) (can_make terms image many supply pages g n b inside reached most) is
      (λ c x. x.closed ∙ none) (λ c order of. of)

  -- so a board that isn't cut stays so
  abbrev NotCut : Board FlatState → Type 0
  NotCut b = From b × (b.closed ≢ Some Cut)

  turn_not_cut : (g n : ℕ) (b d : Board FlatState) → NotCut b → g < many → n ≤ whole_leg (machine_in terms) terms g b
      → turn (machine_in terms) terms g n b ≡ Some d → (o : Option Cause) → b.closed ≡ o → d.closed ≢ Some Cut
  turn_not_cut g n b d from inside most is None none = never_cut d.closed (turn_closes g n b d from.0 inside most is none)
  turn_not_cut g n b d from inside most is (Some cause) shut = λ e.
      from.1 (shut ∙ sym ((turn_carried (machine_in terms) terms g n b d is).shut cause shut).0 ∙ e)

  not_cut_kept : IsKept (machine_in terms) terms many (λ b. NotCut b)
  not_cut_kept = record {
    turned = λ g n b d from inside most is. (Turned g n b d from.0 inside most is, turn_not_cut g n b d from inside most is b.closed refl);
    favours = λ r b from. (Favours r b from.0, from.1);
  }

  not_cut_first : NotCut (first_board terms image many supply)
  not_cut_first = (Begun, λ e. let bad : ⊥ = cc in bad)

  size : (b : Board FlatState) → From b → length b.streams ≡ many
  size b from = (sound_of terms image many supply pages b (reached_is terms image many supply pages b from)).ordered.tidy.streams

  pub lists_cut : (list : List (ℕ × ℕ)) (c : Board FlatState) (r : RecordingEnd FlatState) → OfHarts many list
      → listed (machine_in terms) terms list (first_board terms image many supply) ≡ Some c
      → recorded_by_list (machine_in terms) terms list (first_board terms image many supply) ≡ Some r
      → (r.log.cause ≡ Cut → is_over (machine_in terms) terms c ≡ false) × (is_over (machine_in terms) terms c ≡ false → r.log.cause ≡ Cut)
  lists_cut list c r of is recorded =
      let first = first_board terms image many supply in
      let x =
      mapped (comes_to (machine_in terms) terms) (option_and_then (closed_after (machine_in terms) terms) (listed (machine_in terms) terms list first)) r
      recorded in
      let y = bound_to (closed_after (machine_in terms) terms) (listed (machine_in terms) terms list first) x.0 x.1 in
      let last : closed_after (machine_in terms) terms c ≡ Some x.0 =
      subst (λ z. closed_after (machine_in terms) terms z ≡ Some x.0) (same_Some _ _ (sym y.1 ∙ is)) y.2 in
      let from = listed_leads (machine_in terms) terms many (λ b. NotCut b) not_cut_kept list first c not_cut_first of is in
      subst (λ (z : RecordingEnd FlatState). (z.log.cause ≡ Cut → is_over (machine_in terms) terms c ≡ false)
      × (is_over (machine_in terms) terms c ≡ false → z.log.cause ≡ Cut)) x.2 (by c x.0 from last (is_over (machine_in terms) terms c) refl)
    where
      by : (c d : Board FlatState) → NotCut c → closed_after (machine_in terms) terms c ≡ Some d → (p : Bool) → is_over (machine_in terms) terms c ≡ p
          → (unwrap_or d.closed Limit ≡ Cut → is_over (machine_in terms) terms c ≡ false)
          × (is_over (machine_in terms) terms c ≡ false → unwrap_or d.closed Limit ≡ Cut)
      by c d from is true over =
          let to =
          closed_leads (machine_in terms) terms many (λ b. NotCut b) not_cut_kept c d (λ short. absurd (true≢false (sym over ∙ short)))
          (size c from.0) from is in
          (λ cut. absurd (cause_not_cut d.closed to.1 cut), λ short. absurd (true≢false (sym over ∙ short)))
      by c d from is false short =
          let rows = map (λ (h : ℕ). (h, 0)) (harts c) in
          let none = is_nothing c.closed (or_parts (is_some c.closed) (list_all (is_at_limit (machine_in terms) terms c) (harts c)) short).0 in
          let cut_first : listed (machine_in terms) terms rows (closes Cut c) ≡ Some d =
          sym (ap (λ p. listed (machine_in terms) terms rows (if p then c else closes Cut c)) short) ∙ is in
          let shut =
          (listed_carried (machine_in terms) terms rows (closes Cut c) d cut_first).shut Cut (ap (λ o. Some (unwrap_or o Cut)) none) in
          (λ _. short, λ _. ap (λ o. unwrap_or o Limit) shut.0)

  pub rounds_not_cut : (r : RecordingEnd FlatState) → IsRecordedInRounds (machine_in terms) terms (first_board terms image many supply) r → r.log.cause ≢ Cut
  rounds_not_cut r is =
      let over =
      rounds_lead (machine_in terms) terms many (λ b. NotCut b) not_cut_kept (λ b from. size b from.0) 0 is.number
      (first_board terms image many supply) is.over not_cut_first is.are_made in
      let closed =
      last_lead (machine_in terms) terms many (λ b. NotCut b) not_cut_kept (harts is.over) is.over is.closed over
      (each_below many (length is.over.streams) (let e = size is.over over.0 in omega (arith, e))) is.last in
      λ e. cause_not_cut is.closed.closed closed.1 (sym (ap (λ (z : RecordingEnd FlatState). z.log.cause) is.recorded) ∙ e)
