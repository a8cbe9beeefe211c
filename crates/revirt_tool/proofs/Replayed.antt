-- Where a replay ends, what of it can be reported, and what comes of it beside what was fetched.
use Rattle.std.proofs.Common.{◌≡◌, ℕ, Bool, true, false, List, [], ◌∷◌, length, Option, Some, if◌then◌else◌, true≢false, refl, sym, ap, subst}
use Rattle.std.specs.Prelude.{◌&&◌, is_some}
use Rattle.std.proofs.lemmas.Bool.{and_parts}
use Rattle.std.proofs.lemmas.Option.{none-some, same_Some}
use Rattle.rv_words.specs.declared.shared.Cause.{Cause}
use Rattle.rv_words.specs.declared.shared.Cause.TheVariants as causes
use Rattle.elf_image.specs.Image.{Image}
use Rattle.log_entry.specs.declared.log.Log.{Log}
use Rattle.log_entry.specs.Parts.{unit_of}
use Rattle.flat_machine.specs.State.{FlatState}
use Rattle.flat_machine.specs.Runs.{final_of}
use Rattle.flat_machine.specs.declared.results.Final.{Final}
use Rattle.orders_law.specs.Orders.{Leads, IsLeast}
use Rattle.replay_model.specs.Board.{board}
use Rattle.replay_model.specs.State.{Replay}
use Rattle.replay_model.specs.Items.{step}
use Rattle.replay_model.specs.Outcome.{Outcome, Done, Diverged, IsOutcome, same, is_stop, cause_agrees, all_ended, diverged, least_diverged}
use Rattle.replay_law.specs.Laws.{IsReplayable, first_flat, first_replay}
use Rattle.replay_law.proofs.Orders.{good_first, good_along}
use Rattle.replay_core.specs.Ends.{told_by, IsOutcomeOf}
use Rattle.replay_core.specs.declared.outcome.Outcome.{Outcome as Told}
use Rattle.replay_core.specs.declared.outcome.Outcome.TheVariants as told
use Rattle.revirt_tool.specs.Replays.{EndsAt, DivergesAt, IsReportable, OutcomeAs, told_of}

-- a least order is an order
leads : {S E : Type 0} (step : ℕ → S → Option (S × E)) (harts : ℕ) (s t : S) (made : List (ℕ × E)) → IsLeast step harts s made t → Leads step s made t
leads step harts s t [] l = l.1
leads step harts s t (x ∷ made) l = (l.1.0, l.1.1, leads step harts l.1.0 t made l.1.2)

-- outcomes that are done
abbrev pub is_done : Outcome FlatState → Bool
is_done (Done s) = true
is_done (Diverged hart count rule s) = false

abbrev pub state_of : Outcome FlatState → FlatState
state_of (Done s) = s
state_of (Diverged hart count rule s) = s

done_of : (a b : Bool) (f s : FlatState) (count : ℕ) (other : Option (Outcome FlatState)) → ((o : Outcome FlatState) → other ≡ Some o → is_done o ≡ false)
    → (if a then Some (if b then Done f else Diverged 0 count 7 f) else other) ≡ Some (Done s) → (b ≡ true) × (f ≡ s)
done_of true true f s count other none is = (refl, ap state_of (same_Some _ _ is))
done_of true false f s count other none is = absurd (true≢false (sym (ap is_done (same_Some _ _ is))))
done_of false b f s count other none is = absurd (true≢false (none (Done s) is))

least_not_done : (log : Log) (end : Replay FlatState) (xs : List (ℕ × ℕ)) (o : Outcome FlatState) → least_diverged (board (unit_of log)) log end xs ≡ Some o
    → is_done o ≡ false
least_not_done log end [] o is = absurd (none-some o is)
least_not_done log end (x ∷ xs) o is = sym (ap is_done (same_Some _ _ is))

stopped : (cause : Cause) (a b : Bool) → (same (is_stop cause) a && b) ≡ true → cause ≡ causes.Stop → a ≡ true
stopped cause a b agrees is =
    (and_parts (same true a) b (subst (λ c. (same (is_stop c) a && b) ≡ true) is agrees)).0

-- the end of a replay that is done can be reported
module _ (log : Log) (image : Image) (is : IsReplayable log image) (s : FlatState)
    (done : IsOutcome (board (unit_of log)) log (first_flat log image) (Done s)) where
  pub at_end : (cause_agrees (board (unit_of log)) log done.1.0.flat ≡ true) × (done.1.0.flat ≡ s)
  at_end =
      done_of (all_ended (board (unit_of log)) log done.1.0) (cause_agrees (board (unit_of log)) log done.1.0.flat) done.1.0.flat s _
      (least_diverged (board (unit_of log)) log done.1.0 (diverged (board (unit_of log)) log done.1.0))
      (least_not_done log done.1.0 (diverged (board (unit_of log)) log done.1.0)) done.1.2

  good_end : length done.1.0.flat.counts ≡ length done.1.0.flat.harts
  good_end =
      (good_along log image is (first_replay log image) done.1.0 done.0 (good_first log image is)
      (leads (step (board (unit_of log)) log) (length log.streams) (first_replay log image) done.1.0 done.0 done.1.1)).sound.sized.counts_size

  pub reportable : IsReportable (final_of s log.cause)
  reportable = record {
    counts = sym (subst (λ f. length f.counts ≡ length f.harts) at_end.1 good_end);
    stop = λ stops. stopped log.cause (is_some s.devices.stop) _
        (subst (λ f. cause_agrees (board (unit_of log)) log f ≡ true) at_end.1 at_end.0) stops;
  }

-- what is told of an outcome
abbrev told_done : Told → Bool
told_done (told.Done end) = true
told_done (told.Diverged hart count rule end) = false

abbrev end_of : Told → Final
end_of (told.Done end) = end
end_of (told.Diverged hart count rule end) = end

abbrev parts_of : Told → ℕ × (ℕ × ℕ)
parts_of (told.Done end) = (0, (0, 0))
parts_of (told.Diverged hart count rule end) = (hart, (count, rule))

done_told : (cause : Cause) (o : Outcome FlatState) (end : Final) → told.Done end ≡ told_by cause o
    → (s : FlatState) × (o ≡ Done s) × (end ≡ final_of s cause)
done_told cause (Done s) end is = (s, refl, ap end_of is)
done_told cause (Diverged hart count rule s) end is = absurd (true≢false (ap told_done is))

diverged_told : (cause : Cause) (o : Outcome FlatState) (hart count rule : ℕ) (end : Final) → told.Diverged hart count rule end ≡ told_by cause o
    → (s : FlatState) × (o ≡ Diverged hart count rule s)
diverged_told cause (Done s) hart count rule end is = absurd (true≢false (sym (ap told_done is)))
diverged_told cause (Diverged h c r s) hart count rule end is =
    (s, ap (λ x. Diverged x.0 x.1.0 x.1.1 s) (sym (ap parts_of is)))

pub ends_at : (log : Log) (image : Image) (is : IsReplayable log image) (end : Final) → IsOutcomeOf log image (told.Done end)
    → EndsAt log image end × IsReportable end
ends_at log image is end outcome =
    let t = done_told log.cause outcome.0 end outcome.1.1 in
    let done : IsOutcome (board (unit_of log)) log (first_flat log image) (Done t.0) =
    subst (λ o. IsOutcome (board (unit_of log)) log (first_flat log image) o) t.1 outcome.1.0 in (
      record { orderly = is.orderly; state = t.0; done = done; end_is = t.2 },
      subst IsReportable (sym t.2) (reportable log image is t.0 done),
    )

pub diverges_at : (log : Log) (image : Image) (is : IsReplayable log image) (hart count rule : ℕ) (end : Final)
    → IsOutcomeOf log image (told.Diverged hart count rule end) → DivergesAt log image hart count rule
diverges_at log image is hart count rule end outcome =
    let t = diverged_told log.cause outcome.0 hart count rule end outcome.1.1 in
    record {
      orderly = is.orderly;
      state = t.0;
      diverged = subst (λ o. IsOutcome (board (unit_of log)) log (first_flat log image) o) t.1 outcome.1.0;
    }

-- what is told of an outcome is what the replay comes to
pub outcome_as : (log : Log) (image : Image) (is : IsReplayable log image) (outcome : Told) → IsOutcomeOf log image outcome
    → OutcomeAs log image (told_of outcome)
outcome_as log image is (told.Done end) of = ends_at log image is end of
outcome_as log image is (told.Diverged hart count why end) of = diverges_at log image is hart count why end of
