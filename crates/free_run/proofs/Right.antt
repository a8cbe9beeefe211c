-- What holds of each recording with free harts.
use Rattle.std.proofs.Common.{◌≡◌, ◌≢◌, inl, inr, ℕ, ◌<◌, Bool, true, false, List, [], length, map, Option, Some, None, is_some, unwrap_or, refl}
use Rattle.std.proofs.Common.{sym, ap, ap₂}
use Rattle.std.proofs.Common.{◌∙◌, subst, arith, if◌then◌else◌, true≢false}
use Rattle.std.specs.Prelude.{◌||◌}
use Rattle.std.specs.List.{list_all}
use Rattle.std.specs.Option.{option_and_then, option_map}
use Rattle.std.proofs.lemmas.Bool.{eqb-true}
use Rattle.std.proofs.lemmas.List.{length-replicate}
use Rattle.rv_words.specs.declared.shared.Cause.{Cause}
use Rattle.rv_words.specs.declared.shared.Cause.TheVariants.{Limit, Cut, Fault}
use Rattle.rv_words.specs.declared.shared.Mode.{Mode}
use Rattle.elf_image.specs.Image.{Image}
use Rattle.log_entry.specs.declared.log.Log.{Log}
use Rattle.log_entry.specs.declared.log.Entry.{Entry}
use Rattle.flat_machine.specs.State.{FlatState, flat_at_start}
use Rattle.flat_machine.specs.declared.results.Final.{Final}
use Rattle.replay_model.specs.State.{Replay}
use Rattle.crew_recording.specs.Recording.{with_ends}
use Rattle.crew_recording.proofs.Steady.{no_place}
use Rattle.turn_model.specs.Board.{Board, Supply, Terms, harts, closes, is_at_limit, is_over, wanted, log_with}
use Rattle.turn_model.specs.Lists.{RecordingEnd, listed, closed_after, comes_to, recorded_by_list}
use Rattle.turn_model.specs.Laws.{IsPagedBoard, OfHarts, first_board, machine_in}
use Rattle.turn_model.proofs.BoardFacts.{start_with}
use Rattle.turn_model.proofs.Boards.{Closes, closing_begin, closing_turn, no_leg}
use Rattle.turn_model.proofs.EndCauses.{each_passes}
use Rattle.turn_model.proofs.Rounds.{each_below}
use Rattle.turn_laws.specs.Laws.{IsReachable}
use Rattle.turn_laws.specs.Reached.{Begun, Turned, Favours}
use Rattle.turn_laws.specs.Supplies.{WithMore, Always, NoAnswer, NotTaken, IsSpent, followed_by, with_more}
use Rattle.turn_laws.proofs.MoreAnswers.{list_recorded}
use Rattle.turn_laws.proofs.ReachedBoards.{can_make, faithful_board, reached_is, sound_of}
use Rattle.turn_laws.proofs.ReachedLists.{IsKept, listed_leads}
use Rattle.crew_parts.specs.Boards.{Plain, World, spent, terms_of, the_machine}
use Rattle.crew_parts.proofs.Turned.{first_spent, then_spent}
use Rattle.recorded_turns.specs.Recordings.{IsRightBy, RecordsByList, board_before, recording}
use Rattle.recorded_turns.proofs.Recordings.{lists_are_cut, lists_are_right}
use Rattle.free_run.specs.Recordings.{Freely, RecordsFreely}
use Rattle.free_run.specs.Laws.{FreelyIsByList, FreelyIsNotCut, FreelyIsRight}
use Rattle.free_run.proofs.Over.{IsQuiet, Rested, Rests, rests}

-- ---- the board to which a list leads

module _ (terms : Terms) (image : Image) (many : ℕ) (supply : Supply) (pages : terms.pages ≡ image.pages) where
  abbrev ClosesB : Board FlatState → Type 0
  ClosesB b = Closes (machine_in terms) terms many (IsPagedBoard many terms.pages) (faithful_board terms many terms.pages) b

  abbrev Kept : Board FlatState → Type 0
  Kept b = IsReachable terms image many supply b × ClosesB b

  kept : IsKept (machine_in terms) terms many (λ b. Kept b)
  kept = record {
    turned = λ h n b c from inside less is.
        let reached = reached_is terms image many supply pages b from.0 in (
          Turned h n b c from.0 inside less is,
          closing_turn (machine_in terms) terms many (IsPagedBoard many terms.pages) (faithful_board terms many terms.pages) (flat_at_start image many) supply
              (start_with terms image many pages) (no_place many) h n b c inside reached (can_make terms image many supply pages h n b inside reached less)
              (λ none. let leg = no_leg (machine_in terms) terms many (IsPagedBoard many terms.pages) (faithful_board terms many terms.pages) h b none in
              omega (arith, less, leg)) is from.1,
        );
    favours = λ r b from. (Favours r b from.0, record { wants = from.1.wants; closed = from.1.closed });
  }

  first_kept : Kept (first_board terms image many supply)
  first_kept = (
    Begun,
    closing_begin (machine_in terms) terms many (IsPagedBoard many terms.pages) (faithful_board terms many terms.pages) (flat_at_start image many) supply
        (start_with terms image many pages) (no_place many) refl,
  )

  led : (list : List (ℕ × ℕ)) (b : Board FlatState) → OfHarts many list
      → listed (machine_in terms) terms list (first_board terms image many supply) ≡ Some b → Kept b
  led list b of is = listed_leads (machine_in terms) terms many (λ d. Kept d) kept list (first_board terms image many supply) b first_kept of is

  size : (b : Board FlatState) → Kept b → length b.streams ≡ many
  size b from = (sound_of terms image many supply pages b (reached_is terms image many supply pages b from.0)).ordered.tidy.streams

  -- who has stored a want is below the limit
  quiet : (b : Board FlatState) → Kept b → is_over (machine_in terms) terms b ≡ true → IsQuiet (machine_in terms) terms b
  quiet b from = by (is_some b.closed) refl where
    full : list_all (is_at_limit (machine_in terms) terms b) (harts b) ≡ true → (g : ℕ) → g < length b.streams → is_at_limit (machine_in terms) terms b g ≡ true
    full all = each_passes (is_at_limit (machine_in terms) terms b) (length b.streams) all

    none : list_all (is_at_limit (machine_in terms) terms b) (harts b) ≡ true → (g : ℕ) (o : Option (ℕ × Mode)) → wanted b g ≡ o → wanted b g ≡ None
    none all g None is = is
    none all g (Some n) is =
        let waits = from.1.wants g n is in
        let low = waits.1.0 in
        let long = size b from in
        let inside = waits.0 in
        let at = eqb-true _ _ (full all g (omega (arith, inside, long))) in
        absurd (omega (arith, low, at))

    by : (p : Bool) → is_some b.closed ≡ p → is_over (machine_in terms) terms b ≡ true → IsQuiet (machine_in terms) terms b
    by true shut over = inl shut
    by false open_yet over =
        let all = sym (ap (λ p. p || list_all (is_at_limit (machine_in terms) terms b) (harts b)) open_yet) ∙ over in
        inr (full all, λ g. none all g (wanted b g) refl)

-- ---- the recording by the list of turns

rested_end : (terms : Terms) (b c : Board FlatState) (rows : List (ℕ × ℕ)) → Rested b c
    → record (comes_to (machine_in terms) terms c) { turns = rows } ≡ record (comes_to (machine_in terms) terms b) { turns = rows }
rested_end terms b c rows x =
    ap₂ (λ at streams. end at streams c.journal c.closed c.supply) x.at x.streams
    ∙ ap₂ (λ journal closed. end b.at b.streams journal closed c.supply) x.journal x.closed ∙ ap (end b.at b.streams b.journal b.closed) x.supply
  where
    end : Replay FlatState → List (List Entry) → List (ℕ × ℕ) → Option Cause → Supply → RecordingEnd FlatState
    end at streams journal closed supply = record {
      log = log_with terms (with_ends (λ h. (machine_in terms).flat.count at.flat h) streams) (unwrap_or closed Limit);
      journal = journal;
      turns = rows;
      ended = at.flat;
      left = supply;
    }

module _ (start : Plain) (after : World) (log : Log) (ended : Final) (journal turns : List (ℕ × ℕ))
    (is : RecordsFreely start after log ended journal turns) where
  abbrev terms : Terms
  terms = terms_of start

  abbrev first : Board FlatState
  first = board_before start is.given

  made : Freely turns terms first (recording log journal turns is.at spent)
  made =
      subst (λ o. Freely turns terms (board_before start o) (recording log journal turns is.at spent)) (then_spent is.given)
      (is.recorded spent (λ fault. (refl, refl)))

  of_harts : OfHarts start.harts turns
  of_harts = subst (λ n. OfHarts n turns) (length-replicate start.harts []) made.harts

  at_end : Kept terms start.image start.harts is.given refl made.last
  at_end = led terms start.image start.harts is.given refl turns made.last of_harts made.leads

  abbrev each_rests : Rests the_machine terms made.last (harts made.last)
  each_rests =
      let last = made.last in
      rests the_machine terms (harts last) last (each_below (length last.streams) (length last.streams) (omega arith))
      (quiet terms start.image start.harts is.given refl last at_end made.over)

  closed : closed_after the_machine terms made.last ≡ Some each_rests.to
  closed =
      let rows = map (λ (h : ℕ). (h, 0)) (harts made.last) in
      ap (λ p. listed the_machine terms rows (if p then made.last else closes Cut made.last)) made.over ∙ each_rests.is

  abbrev rows : List (ℕ × ℕ)
  rows = each_rests.to.turns

  by_rows : recorded_by_list the_machine terms turns first ≡ Some (recording log journal rows is.at spent)
  by_rows =
      ap (λ o. option_map (comes_to the_machine terms) (option_and_then (closed_after the_machine terms) o)) made.leads
      ∙ ap (option_map (comes_to the_machine terms)) closed
      ∙ ap Some (rested_end terms made.last each_rests.to rows each_rests.rested ∙ ap (λ (r : RecordingEnd FlatState). record r { turns = rows }) made.comes)

  -- whatever console and clock give later
  by_rows_then : (left : Supply) → (log.cause ≡ Fault → IsSpent left)
      → recorded_by_list the_machine terms turns (board_before start (followed_by is.given left)) ≡ Some (recording log journal rows is.at left)
  by_rows_then left no_more =
      let x = list_recorded the_machine terms turns first (recording log journal rows is.at spent) by_rows in
      more x.0 x.1 x.2 ∙ ap Some (ap (λ (r : RecordingEnd FlatState). record r { left = followed_by r.left left }) (sym x.1)
      ∙ ap (recording log journal rows is.at) (first_spent left))
    where
      more : (c : Board FlatState) → recording log journal rows is.at spent ≡ comes_to the_machine terms c
          → WithMore (λ x. recorded_by_list the_machine terms turns (with_more x first) ≡ Some (comes_to the_machine terms (with_more x c))) first c
          → recorded_by_list the_machine terms turns (board_before start (followed_by is.given left)) ≡ Some (comes_to the_machine terms (with_more left c))
      more c e (Always f) = f left
      more c e (NoAnswer failed none f) = f left (no_more (cause c e failed.1)).0 where
        cause : (c : Board FlatState) → recording log journal rows is.at spent ≡ comes_to the_machine terms c → c.closed ≡ Some Fault → log.cause ≡ Fault
        cause c e failed = ap (λ (r : RecordingEnd FlatState). r.log.cause) e ∙ ap (λ o. unwrap_or o Limit) failed
      more c e (NotTaken failed none f) = f left (no_more (cause c e failed.1)).1 where
        cause : (c : Board FlatState) → recording log journal rows is.at spent ≡ comes_to the_machine terms c → c.closed ≡ Some Fault → log.cause ≡ Fault
        cause c e failed = ap (λ (r : RecordingEnd FlatState). r.log.cause) e ∙ ap (λ o. unwrap_or o Limit) failed

  abbrev by_list : RecordsByList turns start after log ended journal rows
  by_list = record {
    limits = is.limits;
    given = is.given;
    gives = is.gives;
    at = is.at;
    ended_is = is.ended_is;
    recorded = by_rows_then;
    faults = is.faults;
    taken = is.taken;
  }

  right : IsRightBy start is.given log journal turns is.at
  right =
      let so = lists_are_right start after log ended journal rows turns by_list of_harts in
      record {
        right = record {
          terms_are = so.right.terms_are;
          harts_are = so.right.harts_are;
          size = so.right.size;
          orderly = so.right.orderly;
          end = so.right.end;
          ended = so.right.ended;
          obeyed = so.right.obeyed;
          gains = so.right.gains;
          done = so.right.done;
          acts = so.right.acts;
          taken = record {
            asked = so.right.taken.asked;
            times = so.right.taken.times;
            answers_are = so.right.taken.answers_are;
            times_are = so.right.taken.times_are;
            takes_are = so.right.taken.takes_are;
            agree = so.right.taken.agree;
          };
        };
        lean = so.lean;
        range = so.range;
        size = so.size;
        tells = record { full = so.tells.full; fault = so.tells.fault };
      }

  not_cut : log.cause ≢ Cut
  not_cut cut = true≢false (sym made.over ∙ (lists_are_cut start after log ended journal rows turns by_list of_harts made.last made.leads).0 cut)

pub freely_is_by_list : FreelyIsByList
freely_is_by_list start after log ended journal turns is =
    (rows start after log ended journal turns is, by_list start after log ended journal turns is)

pub freely_is_right : FreelyIsRight
freely_is_right = right

pub freely_is_not_cut : FreelyIsNotCut
freely_is_not_cut = not_cut
