-- What a recording with free harts comes to.
use Rattle.std.proofs.Common.{◌≡◌, ◌↔◌, ℕ, ◌≤◌, Bool, true, false, IsTrue, IsErr, IfOk, IfErr, MatchResult, Result, Ok, Err, List, [], length, refl, sym}
use Rattle.std.proofs.Common.{◌∙◌, subst, true≢false}
use Rattle.std.proofs.lemmas.List.{length-replicate}
use Rattle.rv_words.specs.Limits.{most_moves, longest_log}
use Rattle.elf_image.specs.Image.{Image, IsWhole}
use Rattle.log_entry.specs.declared.log.Log.{Log}
use Rattle.flat_machine.specs.declared.results.Final.{Final}
use Rattle.run_model.specs.Run.{Run}
use Rattle.turn_model.specs.Board.{Supply, is_over}
use Rattle.turn_model.specs.Laws.{OfHarts}
use Rattle.turn_model.specs.Lists.{comes_to, listed}
use Rattle.crew_parts.specs.Boards.{Plain, World, EndsAs, IsBoardOf, the_machine, board_of, is_over_in, plain_at_start, terms_of}
use Rattle.crew_parts.specs.Parts.{AreParts}
use Rattle.crew_parts.specs.Turns.{SameTerms}
use Rattle.recorded_turns.specs.Laws.{IsTaken}
use Rattle.recorded_turns.specs.Takes.{Takes}
use Rattle.recorded_turns.proofs.Loops.{terms_stay}
use Rattle.recorded_turns.proofs.Over.{over_is_over}
use Rattle.recorded_turns.proofs.Recordings.{comes_out}
use Rattle.recorded_turns.proofs.Taking.{same_then}
use Rattle.recorder.specs.Manned.{HasGiven}
use Rattle.recorder.proofs.Listing.{limits_of}
use Rattle.free_run.specs.RecordBoards.{IsByTurns, abandoned_in, start_of}
use Rattle.free_run.specs.Recordings.{Freely, HaveRun, RecordsFreely}
use Rattle.free_run.proofs.ByTurns.{by_abandoned, same_start}
use Rattle.free_run.proofs.Turning.{abandoned_is, abandoned_terms}

-- a board that was abandoned
pub abandoned_ran : (p q : Plain) (runs : List Run) → IsByTurns p → q ≡ abandoned_in p → HaveRun p q runs
abandoned_ran p q runs by e = record {
  terms = abandoned_terms p q e;
  turns = by_abandoned p q by e;
  ended = λ whole. absurd (true≢false (sym (abandoned_is p q e) ∙ whole));
}

-- a board of the same terms ran
pub ran_from : (p m q : Plain) (runs : List Run) → SameTerms p m → HaveRun m q runs → HaveRun p q runs
ran_from p m q runs same ran = record { terms = same_then p m q same ran.terms; turns = ran.turns; ended = ran.ended }

-- turns led on, until the board was over
pub ran_on : (p q e : Plain) (runs : List Run) → SameTerms p q → IsByTurns q → (q.abandoned ≡ false → AreParts q runs × (is_over_in q ≡ true)) → e ≡ q
    → HaveRun p e runs
ran_on p q e runs same by ended is = subst (λ z. HaveRun p z runs) (sym is) (record { terms = same; turns = by; ended = ended })

-- what console and clock gave
pub free_given : (world after : World) (p q : Plain) (runs : List Run) → p.first ≡ world → HaveRun p q runs → after ≡ q.now → HasGiven world after
free_given world after p q runs first ran now =
    subst (HasGiven world) (sym now) (subst (λ w. HasGiven w q.now) (ran.terms.first ∙ first) ran.turns.given)

-- what was recorded
pub free_recorded : (image : Image) (harts limit log_limit : ℕ) (world after : World) (p q : Plain) (runs : List Run) (log : Log) (ended : Final)
    (journal turns : List (ℕ × ℕ)) → IsWhole image → 1 ≤ harts → harts ≤ 8 → limit ≤ most_moves → 1024 ≤ log_limit → log_limit ≤ longest_log
    → p ≡ plain_at_start image harts limit log_limit world → HaveRun p q runs → IsBoardOf q → q.abandoned ≡ false → EndsAs q log ended journal turns
    → after ≡ q.now → RecordsFreely (plain_at_start image harts limit log_limit world) after log ended journal turns
free_recorded image harts limit log_limit world after p q runs log ended journal turns whole some few most least_log most_log is ran holds going ends now =
    subst (λ w. RecordsFreely start w log ended journal turns) (sym now)
    (comes_out {Kind = Freely turns} image harts limit log_limit world q log ended journal turns
    (limits_of image harts limit log_limit world whole some few most least_log most_log) (terms_stay start q made.terms) taken ends)
  where
    start : Plain
    start = plain_at_start image harts limit log_limit world

    made : HaveRun start q runs
    made = subst (λ z. HaveRun z q runs) is ran

    led : Takes (terms_of start) (listed the_machine (terms_of start) turns) start q
    led =
        subst (λ list. Takes (terms_of start) (listed the_machine (terms_of start) list) start q) (sym ends.turns_are)
        (subst (λ z. Takes (terms_of start) (listed the_machine (terms_of start) q.turns) z q) (same_start start q made.terms)
        (subst (λ t. Takes t (listed the_machine t q.turns) (start_of q) q) (terms_stay start q made.terms) (made.turns.turns going)))

    of : OfHarts (length start.streams) turns
    of =
        subst (λ n. OfHarts n turns) (made.terms.harts ∙ sym (length-replicate harts []))
        (subst (OfHarts q.harts) (sym ends.turns_are) made.turns.harts)

    over : (left : Supply) → is_over the_machine (terms_of start) (board_of q left) ≡ true
    over left =
        subst (λ t. is_over the_machine t (board_of q left) ≡ true) (terms_stay start q made.terms)
        (over_is_over q left holds.whole holds.reached holds.counts ∙ (made.ended going).1)

    taken : IsTaken start q (λ given left. Freely turns (terms_of start) (board_of start given) (comes_to the_machine (terms_of start) (board_of q left)))
    taken = record {
      given = led.given;
      gives = led.gives;
      faults = led.faults;
      sent = led.sent;
      so = λ left no_more. record { harts = of; last = board_of q left; leads = led.comes left no_more; over = over left; comes = refl };
    }

-- an Ok of a board that wasn't abandoned
pub matched_whole : {X E : Type 0} {P Q R : X → Type 0} {S T : E → Type 0} (b : Bool) (r : Result X E) → IsErr r ↔ IsTrue b
    → (b ≡ false → (x : X) → P x → Q x → R x) → ((e : E) → S e → T e) → IfOk r P → IfOk r Q → IfErr r S → MatchResult r R T
matched_whole true (Ok x) tells f g one two three = absurd (true≢false (sym (tells.1 refl)))
matched_whole false (Ok x) tells f g one two three = f refl x one two
matched_whole b (Err e) tells f g one two three = g e three
