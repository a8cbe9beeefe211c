-- The least order, where further harts can't step at good states.
use Rattle.std.proofs.Common.{◌≡◌, ℕ, ◌≤◌, Bool, true, false, cond, List, [], ◌∷◌, find, nat_lt, Option, Some, None, is_some, refl, sym, ap, ◌∙◌, subst}
use Rattle.std.proofs.lemmas.Bool.{ltb-false, le-ltb}
use Rattle.std.proofs.lemmas.Option.{none-some}
use Rattle.orders_law.specs.Orders.{below, Leads, IsFull, IsLeast, Lasts, Commutes}
use Rattle.orders_law.proofs.Existence.{least_is_there}
use Rattle.shared_types.proofs.Lists.{find_same}

none_beyond : {X : Type 0} (b : Bool) (o : Option X) → b ≡ false → cond b o None ≡ None
none_beyond b o f = ap (λ c. cond c o None) f

within_bounds : {X : Type 0} (b : Bool) (o : Option X) (x : X) → cond b o None ≡ Some x → o ≡ Some x
within_bounds true o x e = e
within_bounds false o x e = absurd (none-some _ e)

same_or_none : {X : Type 0} (b : Bool) (o : Option X) → (b ≡ false → o ≡ None) → cond b o None ≡ o
same_or_none true o none = refl
same_or_none false o none = sym (none refl)

module _ {S E : Type 0} (step : ℕ → S → Option (S × E)) (good : S → Type 0) (harts : ℕ) (lasts : Lasts step good) (commutes : Commutes step good)
    (no_more : (h : ℕ) (s : S) → good s → harts ≤ h → step h s ≡ None) where
  abbrev bounded : ℕ → S → Option (S × E)
  bounded h s = cond (nat_lt h harts) (step h s) None

  same : (h : ℕ) (s : S) → good s → bounded h s ≡ step h s
  same h s ok = same_or_none (nat_lt h harts) (step h s) (λ f. no_more h s ok (ltb-false h harts f))

  did : (h : ℕ) (s a : S) (e : E) → bounded h s ≡ Some (a, e) → step h s ≡ Some (a, e)
  did h s a e is = within_bounds (nat_lt h harts) (step h s) (a, e) is

  bounded_lasts : Lasts bounded good
  bounded_lasts s a e g ok is = lasts s a e g ok (did g s a e is)

  bounded_commutes : Commutes bounded good
  bounded_commutes s a b e f g h ok n did_g did_h =
      let met = commutes s a b e f g h ok n (did g s a e did_g) (did h s b f did_h) in
      (met.0, same h a (bounded_lasts s a e g ok did_g) ∙ met.1, same g b (bounded_lasts s b f h ok did_h) ∙ met.2)

  leads_bounded : (s t : S) (xs : List (ℕ × E)) → good s → Leads step s xs t → Leads bounded s xs t × good t
  leads_bounded s t [] ok is = (is, subst good is ok)
  leads_bounded s t (x ∷ xs) ok is =
      let later = leads_bounded is.0 t xs (lasts s is.0 x.1 x.0 ok is.1) is.2 in
      ((is.0, same x.0 s ok ∙ is.1, later.0), later.1)

  first_least : (s : S) → good s → find (λ h. is_some (step h s)) (below harts) ≡ find (λ h. is_some (bounded h s)) (below harts)
  first_least s ok = find_same (λ h. is_some (step h s)) (λ h. is_some (bounded h s)) (below harts) (λ h. ap is_some (sym (same h s ok)))

  least_back : (s t : S) (ys : List (ℕ × E)) → good s → IsLeast bounded harts s ys t → IsLeast step harts s ys t
  least_back s t [] ok is = (first_least s ok ∙ is.0, is.1)
  least_back s t (y ∷ ys) ok is =
      (first_least s ok ∙ is.0, (is.1.0, did y.0 s is.1.0 y.1 is.1.1, least_back is.1.0 t ys (bounded_lasts s is.1.0 y.1 y.0 ok is.1.1) is.1.2))

  pub least_there : (s t : S) (xs : List (ℕ × E)) → good s → IsFull step s xs t → (ys : List (ℕ × E)) × IsLeast step harts s ys t
  least_there s t xs ok full =
      let leads = leads_bounded s t xs ok full.leads in
      let l = least_is_there bounded good bounded_lasts bounded_commutes harts s t xs ok
      (λ h a m. none_beyond (nat_lt h harts) (step h a) (le-ltb h harts m))
      (record { leads = leads.0; over = λ h. same h t leads.1 ∙ full.over h }) in
      (l.0, least_back s t l.0 ok l.1)
