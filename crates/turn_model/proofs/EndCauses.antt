-- The cause of a recording agrees with its end.
use Rattle.std.proofs.Common.{◌≡◌, ℕ, zero, suc, ◌<◌, ◌==◌, ◌&&◌, not, Bool, true, false, [], ◌∷◌, length, Option, Some, None, unwrap_or, inl, inr, refl, sym}
use Rattle.std.proofs.Common.{ap, ap₂, ◌∙◌, subst, arith}
use Rattle.std.specs.List.{list_all}
use Rattle.std.proofs.lemmas.Bool.{and_parts, eq-eqb, ne_eqb}
use Rattle.std.proofs.lemmas.Bool.Decides.{eqb_tells}
use Rattle.std.proofs.lemmas.List.Folds.{list_all-append}
use Rattle.std.proofs.lemmas.Option.{none-some}
use Rattle.orders_law.proofs.Below.{all_below}
use Rattle.rv_words.specs.declared.shared.Cause.{Cause}
use Rattle.rv_words.specs.declared.shared.Cause.TheVariants as causes
use Rattle.orders_law.specs.Orders.{below}
use Rattle.replay_model.specs.Outcome.{is_stop, is_limit, same, cause_agrees}
use Rattle.turn_model.specs.Recordable.{Recordable}
use Rattle.turn_model.specs.Board.{Board, Terms, log_of, ended_streams}
use Rattle.turn_model.specs.Faithful.{IsFaithful}
use Rattle.turn_model.proofs.Closure.{Waits, ClosedSo}
use Rattle.turn_model.proofs.Boards.{SoundBoard, Closes, IsDone, log_size_is}

-- a test that a lesser number fails
one_fails : (test : ℕ → Bool) (n g : ℕ) → g < n → test g ≡ false → list_all test (below n) ≡ false
one_fails test zero g l f = absurd (omega (arith, l))
one_fails test (suc n) g l f = list_all-append test (below n) (n ∷ []) ∙ elim (eqb_tells g n) [
  | inl (t, e) ↦ ap (λ b. list_all test (below n) && (b && true)) (subst (λ k. test k ≡ false) e f) ∙ last (list_all test (below n))
  | inr (t, other) ↦ ap (λ b. b && (test n && true)) (one_fails test n g (omega (arith, l, other)) f)
] where
  last : (b : Bool) → (b && false) ≡ false
  last true = refl
  last false = refl

-- one that all lesser numbers pass
pub each_passes : (test : ℕ → Bool) (n : ℕ) → list_all test (below n) ≡ true → (g : ℕ) → g < n → test g ≡ true
each_passes test zero all g l = absurd (omega (arith, l))
each_passes test (suc n) all g l =
    let both = and_parts (list_all test (below n)) (test n && true) (sym (list_all-append test (below n) (n ∷ [])) ∙ all) in
    elim (eqb_tells g n) [
      | inl (t, e) ↦ subst (λ k. test k ≡ true) (sym e) (and_parts (test n) true both.1).0
      | inr (t, other) ↦ each_passes test n both.0 g (omega (arith, l, other))
    ]

-- what a cause says of stop, and of whether all counts are at the limit
abbrev Fits : Option Cause → Bool → Bool → Type 0
Fits None stopped full = (stopped ≡ false) × (full ≡ true)
Fits (Some causes.Stop) stopped full = stopped ≡ true
Fits (Some causes.Limit) stopped full = ⊥
Fits (Some cause) stopped full = (stopped ≡ false) × (full ≡ false)

fits_agrees : (o : Option Cause) (stopped full : Bool) → Fits o stopped full
    → (same (is_stop (unwrap_or o causes.Limit)) stopped && same (is_limit (unwrap_or o causes.Limit)) (not stopped && full)) ≡ true
fits_agrees None stopped full fits = ap₂ (λ a b. not a && (not a && b)) fits.0 fits.1
fits_agrees (Some causes.Stop) stopped full fits = ap (λ a. a && not (not a && full)) fits
fits_agrees (Some causes.Limit) stopped full fits = absurd fits
fits_agrees (Some causes.Full) stopped full fits = ap₂ (λ a b. not a && not (not a && b)) fits.0 fits.1
fits_agrees (Some causes.Fault) stopped full fits = ap₂ (λ a b. not a && not (not a && b)) fits.0 fits.1
fits_agrees (Some causes.Cut) stopped full fits = ap₂ (λ a b. not a && not (not a && b)) fits.0 fits.1

module _ {S V : Type 0} (machine : Recordable S V) (terms : Terms) (many : ℕ) (Good : S → Type 0)
    (faithful : IsFaithful machine.flat many terms.pages Good) where
  abbrev AllFull : Board S → ℕ → Bool
  AllFull b n = list_all (λ h. machine.flat.count b.at.flat h == terms.limit) (below n)

  abbrev Agrees : Board S → Type 0
  Agrees d = cause_agrees machine.flat (log_of machine terms d) d.at.flat ≡ true

  size_of_board : (d : Board S) → SoundBoard machine terms many Good faithful d → length (ended_streams machine terms d) ≡ many
  size_of_board d sound = log_size_is machine terms many Good faithful d ∙ sound.ordered.tidy.streams

  by_fits : (d : Board S) → SoundBoard machine terms many Good faithful d → Fits d.closed (machine.flat.is_stopped d.at.flat) (AllFull d many) → Agrees d
  by_fits d sound fits = fits_agrees d.closed (machine.flat.is_stopped d.at.flat) (AllFull d (length (ended_streams machine terms d)))
      (subst (λ n. Fits d.closed (machine.flat.is_stopped d.at.flat) (AllFull d n)) (sym (size_of_board d sound)) fits)

  waiting : (d : Board S) (g : ℕ) → g < many → Waits machine terms many terms.pages Good faithful d g → AllFull d many ≡ false
  waiting d g l waits = one_fails (λ h. machine.flat.count d.at.flat h == terms.limit) many g l
      (ne_eqb (machine.flat.count d.at.flat g) terms.limit (λ e. let w = waits.0 in absurd (omega (arith, w, e))))

  -- of a board that is closed, or whose counts are all at the limit
  pub agrees : (d : Board S) → SoundBoard machine terms many Good faithful d → Closes machine terms many Good faithful d
      → IsDone machine terms many Good faithful d → Agrees d
  agrees d sound closing done = by_fits d sound (by d.closed closing.closed (full done)) where
    full : IsDone machine terms many Good faithful d → d.closed ≡ None → AllFull d many ≡ true
    full (inl closed) none = absurd (none-some _ (sym none ∙ closed.1))
    full (inr all) none = all_below (λ h. machine.flat.count d.at.flat h == terms.limit) many
        (λ h l. eq-eqb (machine.flat.count d.at.flat h) terms.limit (all h l))

    by : (o : Option Cause) → ClosedSo machine terms many terms.pages Good faithful d o → (o ≡ None → AllFull d many ≡ true)
        → Fits o (machine.flat.is_stopped d.at.flat) (AllFull d many)
    by None so f = (so, f refl)
    by (Some causes.Stop) so f = so
    by (Some causes.Limit) so f = so
    by (Some causes.Full) so f = (so.0, waiting d so.1.0 so.1.1 so.1.2)
    by (Some causes.Fault) so f = (so.0, waiting d so.1.0 so.1.1 so.1.2)
    by (Some causes.Cut) so f = (so.0, waiting d so.1.0 so.1.1 so.1.2)

  -- of one that was cut where it wasn't over
  pub cut_agrees : (d : Board S) → SoundBoard machine terms many Good faithful d → d.closed ≡ Some causes.Cut → machine.flat.is_stopped d.at.flat ≡ false
      → AllFull d many ≡ false → Agrees d
  cut_agrees d sound cut running short = by_fits d sound (subst (λ o. Fits o (machine.flat.is_stopped d.at.flat) (AllFull d many)) (sym cut) (running, short))
