-- What a state comes to at which no hart can go, by the first diverged hart.
use Rattle.std.proofs.Common.{◌≡◌, ◌≢◌, ◌⊎◌, inl, inr, ℕ, zero, suc, ◌<◌, ◌&&◌, Bool, true, false, List, [], ◌∷◌, length, Option, Some, None, true≢false}
use Rattle.std.proofs.Common.{refl, sym, ap, ◌∙◌, arith, if◌then◌else◌}
use Rattle.std.specs.List.{list_all}
use Rattle.std.specs.Option.{option_map}
use Rattle.std.proofs.lemmas.Bool.{cases_eq}
use Rattle.std.proofs.lemmas.List.Folds.{list_all-append}
use Rattle.std.proofs.lemmas.Option.{none-some}
use Rattle.elf_image.specs.Image.{Image}
use Rattle.log_entry.specs.declared.log.Log.{Log}
use Rattle.log_entry.specs.Parts.{unit_of}
use Rattle.orders_law.specs.Orders.{below}
use Rattle.orders_law.proofs.Below.{all_below}
use Rattle.order_rules.specs.Orderly.{IsOrderly}
use Rattle.flat_machine.specs.State.{FlatState}
use Rattle.replay_model.specs.Board.{board}
use Rattle.replay_model.specs.Items.{Verdict, HasEnded, Holds, CanGo, HasDiverged, Obeys, verdict}
use Rattle.replay_model.specs.Outcome.{Done, Diverged, rule_of, is_ended, cause_agrees, all_ended, diverged, least_diverged, outcome_at}
use Rattle.replay_model.specs.State.{Replay, start}
use Rattle.replay_ends.proofs.NoDeadlock.{nobody_holds_alone}
use Rattle.replay_law.specs.Laws.{first_flat}
use Rattle.replay_core.specs.Items.{IsStuck}
use Rattle.replay_core.proofs.Verdicts.{none_found}

-- each number below passes where all do
pub each_below : (test : ℕ → Bool) (n : ℕ) → list_all test (below n) ≡ true → (i : ℕ) → i < n → test i ≡ true
each_below test zero all i l = absurd (omega (arith, l))
each_below test (suc n) all i l =
    let both = split (list_all test (below n)) (test n) (sym (list_all-append test (below n) (n ∷ [])) ∙ all) in
    elim (cases_eq i n) [ inl same ↦ ap test same ∙ both.1 | inr d ↦ each_below test n both.0 i (omega (arith, l, d)) ]
  where
    split : (a b : Bool) → (a && (b && true)) ≡ true → (a ≡ true) × (b ≡ true)
    split true true e = (refl, refl)
    split true false e = absurd (true≢false (sym e))
    split false b e = absurd (true≢false (sym e))

no_rule : (v : Verdict) → is_ended v ≡ true → rule_of v ≡ None
no_rule HasEnded e = refl
no_rule Holds e = refl
no_rule CanGo e = refl
no_rule (HasDiverged rule) e = absurd (true≢false (sym e))

ended_or_holds : (v : Verdict) → rule_of v ≡ None → v ≢ CanGo → (v ≡ HasEnded) ⊎ (v ≡ Holds)
ended_or_holds HasEnded none n = inl refl
ended_or_holds Holds none n = inr refl
ended_or_holds CanGo none n = absurd (n refl)
ended_or_holds (HasDiverged rule) none n = absurd (none-some _ (sym none))

module _ (log : Log) (s : Replay FlatState) where
  abbrev pub verdict_of : ℕ → Verdict
  verdict_of h = verdict (board (unit_of log)) log s h

  abbrev pub divergence : ℕ → Option (ℕ × ℕ)
  divergence h = option_map (λ rule. (h, rule)) (rule_of (verdict_of h))

  -- where one has diverged not all have ended
  not_all : (h rule : ℕ) (others : List (ℕ × ℕ)) → diverged (board (unit_of log)) log s ≡ (h, rule) ∷ others → all_ended (board (unit_of log)) log s ≡ true → ⊥
  not_all h rule others are all =
      let none : diverged (board (unit_of log)) log s ≡ [] =
      none_found divergence (length log.streams) (λ i l. ap (λ o. option_map (λ rule. (i, rule)) o)
      (no_rule (verdict_of i) (each_below (λ h. is_ended (verdict_of h)) (length log.streams) all i l))) in
      true≢false (ap is_empty (sym none ∙ are))
    where
      is_empty : List (ℕ × ℕ) → Bool
      is_empty [] = true
      is_empty (x ∷ xs) = false

  pub diverged_comes : (h rule : ℕ) (others : List (ℕ × ℕ)) → diverged (board (unit_of log)) log s ≡ (h, rule) ∷ others
      → outcome_at (board (unit_of log)) log s ≡ Some (Diverged h ((board (unit_of log)).count s.flat h) rule s.flat)
  diverged_comes h rule others are = by (all_ended (board (unit_of log)) log s) refl where
    by : (b : Bool) → all_ended (board (unit_of log)) log s ≡ b
        → (if b then Some (if cause_agrees (board (unit_of log)) log s.flat then Done s.flat else Diverged 0
        ((board (unit_of log)).count s.flat 0) 7 s.flat) else least_diverged (board (unit_of log)) log s (diverged (board (unit_of log)) log s))
        ≡ Some (Diverged h ((board (unit_of log)).count s.flat h) rule s.flat)
    by true e = absurd (not_all h rule others are e)
    by false e = ap (least_diverged (board (unit_of log)) log s) are

  -- where none has all have ended
  pub ended_comes : (image : Image) (order : List ℕ) → IsOrderly log → Obeys (board (unit_of log)) log (start log (first_flat log image)) order s
      → IsStuck log s
      → ((i : ℕ) → i < length log.streams → rule_of (verdict_of i) ≡ None) → (agrees : Bool) → cause_agrees (board (unit_of log)) log s.flat ≡ agrees
      → outcome_at (board (unit_of log)) log s ≡ Some (if agrees then Done s.flat else Diverged 0 ((board (unit_of log)).count s.flat 0) 7 s.flat)
  ended_comes image order orderly obeys stuck none agrees is =
      let all : all_ended (board (unit_of log)) log s ≡ true = all_below (λ h. is_ended (verdict_of h)) (length log.streams) (λ h l. ap is_ended (ended h l)) in
      ap (λ x. if x then Some (if cause_agrees (board (unit_of log)) log s.flat then Done s.flat else Diverged 0
      ((board (unit_of log)).count s.flat 0) 7 s.flat) else least_diverged (board (unit_of log)) log s (diverged (board (unit_of log)) log s)) all
      ∙ ap (λ x. Some (if x then Done s.flat else Diverged 0 ((board (unit_of log)).count s.flat 0) 7 s.flat)) is
    where
      ended : (h : ℕ) → h < length log.streams → verdict_of h ≡ HasEnded
      ended = nobody_holds_alone log (first_flat log image) order s orderly obeys (λ h l. ended_or_holds (verdict_of h) (none h l) (stuck h l))
