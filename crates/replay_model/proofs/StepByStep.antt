-- The least order and a given order of a replay, made step by step: what they come to is read off by computation.
use Rattle.std.proofs.Common.{◌≡◌, ℕ, zero, suc, List, [], ◌∷◌, map, length, Option, Some, None, refl, sym, ap, ◌∙◌, subst}
use Rattle.std.specs.Option.{option_map, option_and_then, option_map_or}
use Rattle.std.proofs.lemmas.Option.{none-some, same_Some}
use Rattle.orders_law.specs.Orders.{Leads, least, IsLeast}
use Rattle.log_entry.specs.declared.log.Log.{Log}
use Rattle.replay_model.specs.Flat.{Flat}
use Rattle.replay_model.specs.State.{Replay, start}
use Rattle.replay_model.specs.Items.{step}
use Rattle.replay_model.specs.Outcome.{Outcome, IsOutcome, outcome_at}
use Rattle.replay_model.proofs.ActsOfOrders.{mapped}

module _ {S E : Type 0} (step : ℕ → S → Option (S × E)) where
  abbrev Made : Type 0
  Made = List (ℕ × E) × S

  abbrev before : ℕ → E → Made → Made
  before h e r = ((h, e) ∷ r.0, r.1)

  abbrev and_then : ℕ → (S → Option Made) → Option (S × E) → Option Made
  and_then h more o = option_and_then (λ x. option_map (before h x.1) (more x.0)) o

  -- along these harts
  abbrev pub along : List ℕ → S → Option Made
  along [] s = Some ([], s)
  along (h ∷ order) s = and_then h (along order) (step h s)

  abbrev Along : List ℕ → S → Made → Type 0
  Along order s r = (map (λ (m : ℕ × E). m.0) r.0 ≡ order) × Leads step s r.0 r.1

  pub leads : (order : List ℕ) (s : S) (r : Made) → along order s ≡ Some r → Along order s r
  leads [] s r e = subst (Along [] s) (same_Some _ _ e) (refl, refl)
  leads (h ∷ order) s r e = of (leads order) (step h s) refl e where
    of : ((m : S) (q : Made) → along order m ≡ Some q → Along order m q) → (o : Option (S × E)) → step h s ≡ o → and_then h (along order) o ≡ Some r
        → Along (h ∷ order) s r
    of more None is e = absurd (none-some _ e)
    of more (Some x) is e =
        let m = mapped (before h x.1) (along order x.0) r e in
        let later = more x.0 m.0 m.1 in
        subst (Along (h ∷ order) s) m.2 (ap (λ zs. h ∷ zs) later.0, (x.0, is, later.1))

  module _ (harts : ℕ) where
    -- the least order, of at most so many steps
    abbrev pub run : ℕ → S → Option Made
    run zero s = None
    run (suc n) s = option_map_or (λ h. and_then h (run n) (step h s)) (least step harts s) (Some ([], s))

    abbrev Least : S → Made → Type 0
    Least s r = IsLeast step harts s r.0 r.1

    pub is_least : (n : ℕ) (s : S) (r : Made) → run n s ≡ Some r → Least s r
    is_least zero s r e = absurd (none-some _ e)
    is_least (suc n) s r e = of (is_least n) (least step harts s) refl e where
      stepped : ((m : S) (q : Made) → run n m ≡ Some q → Least m q) → (h : ℕ) (o : Option (S × E)) → least step harts s ≡ Some h → step h s ≡ o
          → and_then h (run n) o ≡ Some r → Least s r
      stepped more h None first is e = absurd (none-some _ e)
      stepped more h (Some x) first is e =
          let m = mapped (before h x.1) (run n x.0) r e in
          subst (Least s) m.2 (first, (x.0, is, more x.0 m.0 m.1))

      of : ((m : S) (q : Made) → run n m ≡ Some q → Least m q) → (o : Option ℕ) → least step harts s ≡ o
          → option_map_or (λ h. and_then h (run n) (step h s)) o (Some ([], s)) ≡ Some r → Least s r
      of more None is e = subst (Least s) (same_Some _ _ e) (is, refl)
      of more (Some h) is e = stepped more h (step h s) is refl e

module _ {S V : Type 0} (flat : Flat S V) (log : Log) (first : S) where
  -- what the least order comes to, in at most so many steps
  abbrev pub outcome_in : ℕ → Option (Outcome S)
  outcome_in n = option_and_then (λ r. outcome_at flat log r.1) (run (step flat log) (length log.streams) n (start log first))

  pub comes_to : (n : ℕ) (outcome : Outcome S) → outcome_in n ≡ Some outcome → IsOutcome flat log first outcome
  comes_to n outcome e = of (run (step flat log) (length log.streams) n (start log first)) refl e where
    of : (o : Option (List (ℕ × Option V) × Replay S)) → run (step flat log) (length log.streams) n (start log first) ≡ o
        → option_and_then (λ r. outcome_at flat log r.1) o ≡ Some outcome → IsOutcome flat log first outcome
    of None is e = absurd (none-some _ e)
    of (Some r) is e = (r.0, (r.1, is_least (step flat log) (length log.streams) n (start log first) r is, e))
