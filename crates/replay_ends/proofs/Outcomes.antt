-- A replay has an outcome, and one alone.
use Rattle.std.proofs.Common.{◌≡◌, ℕ, zero, suc, ◌<◌, Bool, true, false, List, [], ◌∷◌, ◌++◌, length, filter_map, Option, Some, None, true≢false, refl, sym, ap}
use Rattle.std.proofs.Common.{◌∙◌, inl, inr, ◌⊎◌, arith, if◌then◌else◌}
use Rattle.std.specs.List.{cons_option}
use Rattle.std.specs.Option.{option_map}
use Rattle.std.proofs.lemmas.Bool.{cases_eq}
use Rattle.std.proofs.lemmas.List.Elements.{filter_map-append}
use Rattle.std.proofs.lemmas.Option.{none-some, same_Some}
use Rattle.orders_law.proofs.Below.{all_below}
use Rattle.orders_law.specs.Orders.{below}
use Rattle.orders_law.proofs.Least.{least_is_one}
use Rattle.elf_image.specs.Image.{Image}
use Rattle.log_entry.specs.declared.log.Log.{Log}
use Rattle.log_entry.specs.Parts.{unit_of}
use Rattle.flat_machine.specs.State.{FlatState}
use Rattle.replay_model.specs.Board.{board}
use Rattle.replay_model.specs.State.{Replay, start}
use Rattle.replay_model.specs.Items.{Verdict, HasEnded, Holds, CanGo, HasDiverged, Obeys, IsFullOrder, verdict, step}
use Rattle.replay_model.specs.Outcome.{Outcome, Done, Diverged, rule_of, is_ended, cause_agrees, all_ended, diverged, least_diverged, outcome_at}
use Rattle.replay_ends.proofs.NoDeadlock.{nobody_holds_alone}
use Rattle.replay_law.specs.Laws.{IsReplayable, first_flat, first_replay}
use Rattle.replay_ends.specs.Laws.{OutcomeIsThere, OutcomeIsOne}
use Rattle.replay_law.proofs.Timely.{reached_goes}
use Rattle.replay_law.proofs.Orders.{orders_tell_outcome}
use Rattle.replay_law.proofs.Progress.{full_order_is_there}

both_empty : {X : Type 0} (xs ys : List X) → xs ++ ys ≡ [] → (xs ≡ []) × (ys ≡ [])
both_empty [] ys e = (refl, e)
both_empty (x ∷ xs) ys e = let bad : ⊥ = cc in absurd bad

no_option : {X : Type 0} (o : Option X) → cons_option o [] ≡ [] → o ≡ None
no_option None e = refl
no_option (Some x) e = let bad : ⊥ = cc in absurd bad

-- where there are no answers none of the numbers has one
pub no_answers : {X : Type 0} (f : ℕ → Option X) (n : ℕ) → filter_map f (below n) ≡ [] → (i : ℕ) → i < n → f i ≡ None
no_answers f zero e i l = absurd (omega (arith, l))
no_answers f (suc n) e i l =
    let both = both_empty (filter_map f (below n)) (filter_map f (n ∷ [])) (sym (filter_map-append f (below n) (n ∷ [])) ∙ e) in
    elim (cases_eq i n) [
      | inl same ↦ ap f same ∙ no_option (f n) both.1
      | inr d ↦ no_answers f n both.0 i (omega (arith, l, d))
    ]

pub no_rule : (h : ℕ) (o : Option ℕ) → option_map {U = ℕ × ℕ} (λ rule. (h, rule)) o ≡ None → o ≡ None
no_rule h None e = refl
no_rule h (Some k) e = absurd (none-some _ (sym e))

ended_or_holds : (v : Verdict) → rule_of v ≡ None → (v ≡ CanGo → ⊥) → (v ≡ HasEnded) ⊎ (v ≡ Holds)
ended_or_holds HasEnded none not_can = inl refl
ended_or_holds Holds none not_can = inr refl
ended_or_holds CanGo none not_can = absurd (not_can refl)
ended_or_holds (HasDiverged rule) none not_can = absurd (none-some _ (sym none))

module _ (log : Log) (image : Image) (is : IsReplayable log image) (order : List ℕ) (t : Replay FlatState)
    (full : IsFullOrder (board (unit_of log)) log (first_replay log image) order t) where
  obeys : Obeys (board (unit_of log)) log (first_replay log image) order t
  obeys = (full.0, full.1, full.2.leads)

  -- where none has diverged all have ended
  none_left : diverged (board (unit_of log)) log t ≡ [] → all_ended (board (unit_of log)) log t ≡ true
  none_left none = all_below (λ h. is_ended (verdict (board (unit_of log)) log t h)) (length log.streams)
      (λ h l. ap is_ended (nobody_holds_alone log (first_flat log image) order t is.orderly obeys each h l))
    where
      each : (h : ℕ) → h < length log.streams → (verdict (board (unit_of log)) log t h ≡ HasEnded) ⊎ (verdict (board (unit_of log)) log t h ≡ Holds)
      each h l =
          ended_or_holds (verdict (board (unit_of log)) log t h)
          (no_rule h (rule_of (verdict (board (unit_of log)) log t h))
          (no_answers (λ h. option_map (λ rule. (h, rule)) (rule_of (verdict (board (unit_of log)) log t h))) (length log.streams) none h l))
          (λ go. let m = reached_goes log image order t h is obeys l go in none-some _ (sym (full.2.over h) ∙ m.1))

  comes_to : (outcome : Outcome FlatState) × (outcome_at (board (unit_of log)) log t ≡ Some outcome)
  comes_to = by (all_ended (board (unit_of log)) log t) (diverged (board (unit_of log)) log t) refl refl where
    by : (b : Bool) (d : List (ℕ × ℕ)) → all_ended (board (unit_of log)) log t ≡ b → diverged (board (unit_of log)) log t ≡ d
        → (outcome : Outcome FlatState)
        × ((if b then Some (if cause_agrees (board (unit_of log)) log t.flat then Done t.flat else Diverged 0
        ((board (unit_of log)).count t.flat 0) 7 t.flat) else least_diverged (board (unit_of log)) log t d) ≡ Some outcome)
    by true d ended are = (_, refl)
    by false [] ended are = absurd (true≢false (sym (none_left are) ∙ ended))
    by false (x ∷ xs) ended are = (_, refl)

pub outcome_is_there : OutcomeIsThere
outcome_is_there log image is =
    let f = full_order_is_there log image is in
    let o = comes_to log image is f.0 f.1.0 f.1.1 in
    (o.0, orders_tell_outcome log image f.0 f.1.0 o.0 is f.1.1 o.1)

pub outcome_is_one : OutcomeIsOne
outcome_is_one log first outcome other one two =
    let same = least_is_one (step (board (unit_of log)) log) (length log.streams) (start log first) one.1.0 two.1.0 one.0 two.0 one.1.1 two.1.1 in
    same_Some _ _ (sym one.1.2 ∙ ap (outcome_at (board (unit_of log)) log) same.1 ∙ two.1.2)
