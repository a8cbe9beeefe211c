-- Where there is a full order there is the least one: its next move is found in the full order and pulled to its front.
use Rattle.std.proofs.Common.{inl, ◌≡◌, ℕ, zero, suc, ◌≤◌, List, [], ◌∷◌, length, Option, Some, None, Bool, true, false, cond, find, is_some, refl}
use Rattle.std.proofs.Common.{sym, ◌∙◌, subst, arith}
use Rattle.shared_types.proofs.Lists.{is_there}
use Rattle.std.specs.Option.{option_or}
use Rattle.std.proofs.lemmas.Option.{none-some, same_Some}
use Rattle.std.proofs.lemmas.List.Folds.{find-append}
use Rattle.orders_law.specs.Orders.{below, Leads, IsFull, Lasts, Commutes, least, IsLeast, LeastIsThere}
use Rattle.orders_law.proofs.Confluence.{pull}
use Rattle.orders_law.proofs.Least.{least_is_over}

last_is : (test : ℕ → Bool) (n h : ℕ) (b : Bool) → test n ≡ b → cond b (Some n) None ≡ Some h → test h ≡ true
last_is test n h true t e = subst (λ k. test k ≡ true) (same_Some _ _ e) t
last_is test n h false t e = absurd (none-some _ e)

found_first : (o : Option ℕ) (other : Option ℕ) (h : ℕ) (P : Type 0) → (o ≡ Some h → P) → (other ≡ Some h → P) → option_or o other ≡ Some h → P
found_first None other h P f g e = g e
found_first (Some k) other h P f g e = f e

found_passes : (test : ℕ → Bool) (n h : ℕ) → find test (below n) ≡ Some h → test h ≡ true
found_passes test zero h e = absurd (none-some _ e)
found_passes test (suc n) h e =
    found_first (find test (below n)) (cond (test n) (Some n) None) h (test h ≡ true) (found_passes test n h) (last_is test n h (test n) refl)
    (sym (find-append test (below n) (n ∷ [])) ∙ e)

module _ {S E : Type 0} (step : ℕ → S → Option (S × E)) (good : S → Type 0) (lasts : Lasts step good) (commutes : Commutes step good) where
  stays : (s t : S) (xs : List (ℕ × E)) → ((h : ℕ) → step h s ≡ None) → Leads step s xs t → s ≡ t
  stays s t [] over leads = leads
  stays s t (x ∷ xs) over leads = absurd (none-some _ (sym (over x.0) ∙ leads.1))

  abbrev Least : ℕ → S → S → Type 0
  Least harts s t = (ys : List (ℕ × E)) × IsLeast step harts s ys t

  on : (harts : ℕ) (s t : S) (xs : List (ℕ × E)) → good s → ((h : ℕ) (a : S) → harts ≤ h → step h a ≡ None) → IsFull step s xs t
      → ((m : S) (ys : List (ℕ × E)) → length xs ≡ suc (length ys) → good m → IsFull step m ys t → Least harts m t)
      → (o : Option ℕ) → least step harts s ≡ o → Least harts s t
  on harts s t xs ok none full more None e = ([], (e, stays s t xs (least_is_over step harts s (λ h l. none h s l) e) full.leads))
  on harts s t xs ok none full more (Some h) e =
      let x = is_there (step h s) (found_passes (λ g. is_some (step g s)) harts h e) in
      let pulled = pull step good lasts commutes h s x.0.0 x.0.1 xs t ok x.1 (inl (full.over h)) full.leads in
      let rest = more x.0.0 pulled.rest pulled.size (lasts s x.0.0 x.0.1 h ok x.1) (record { leads = pulled.leads; over = full.over }) in
      ((h, x.0.1) ∷ rest.0, (e, (x.0.0, x.1, rest.1)))

  of_size : (size harts : ℕ) (s t : S) (xs : List (ℕ × E)) → length xs ≡ size → good s → ((h : ℕ) (a : S) → harts ≤ h → step h a ≡ None) → IsFull step s xs t
      → Least harts s t
  of_size zero harts s t xs long ok none full = on harts s t xs ok none full (λ m ys e _ _. absurd (omega (arith, long, e))) (least step harts s) refl
  of_size (suc size) harts s t xs long ok none full =
      on harts s t xs ok none full (λ m ys e ok' full'. of_size size harts m t ys (omega (arith, long, e)) ok' none full') (least step harts s) refl

  pub least_is_there : LeastIsThere step good
  least_is_there harts s t xs ok none full = of_size (length xs) harts s t xs refl ok none full
