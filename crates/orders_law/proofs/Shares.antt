-- Two orders in which each hart steps equally often agree: the first step of one is found in the other and pulled to its front.
use Rattle.std.proofs.Common.{◌≡◌, inr, ℕ, suc, ◌==◌, Bool, true, false, cond, List, [], ◌∷◌, filter, length, Option, Some, refl, sym, ap, ◌∙◌, subst, arith}
use Rattle.std.proofs.lemmas.Bool.{eqb-true, eq-eqb}
use Rattle.orders_law.specs.Orders.{is_of, share, Leads, Lasts, Commutes, IsApart, SharesAgree}
use Rattle.orders_law.proofs.Confluence.{pull}

module _ {S E : Type 0} (step : ℕ → S → Option (S × E)) (good : S → Type 0) (lasts : Lasts step good) (commutes : Commutes step good) where
  one_more : (h : ℕ) (x : ℕ × E) (xs : List (ℕ × E)) → x.0 ≡ h → share h (x ∷ xs) ≡ suc (share h xs)
  one_more h x xs e = ap (λ b. length (cond b (x ∷ filter (is_of h) xs) (filter (is_of h) xs))) (eq-eqb x.0 h e)

  no_more : (h : ℕ) (x : ℕ × E) (xs : List (ℕ × E)) → (x.0 == h) ≡ false → share h (x ∷ xs) ≡ share h xs
  no_more h x xs e = ap (λ b. length (cond b (x ∷ filter (is_of h) xs) (filter (is_of h) xs))) e

  -- no two harts make a step of one hart
  pub own_apart : (h : ℕ) → IsApart step good (is_of h)
  own_apart h s a b e f g k ok n did_g did_k own_g own_k = n (eqb-true g h own_g ∙ sym (eqb-true k h own_k))

  not_zero : (n : ℕ) → suc n ≡ 0 → ⊥
  not_zero n e = omega (arith, e)

  cancel : (h : ℕ) (x : ℕ × E) (xs ys : List (ℕ × E)) → share h (x ∷ xs) ≡ share h (x ∷ ys) → share h xs ≡ share h ys
  cancel h x xs ys e = by (x.0 == h) refl where
    by : (b : Bool) → (x.0 == h) ≡ b → share h xs ≡ share h ys
    by true t = let a = one_more h x xs (eqb-true x.0 h t) in let b = one_more h x ys (eqb-true x.0 h t) in omega (arith, a, b, e)
    by false f = sym (no_more h x xs f) ∙ e ∙ no_more h x ys f

  pub shares_agree : SharesAgree step good
  shares_agree s t u [] [] ok one two equal = (sym one ∙ two, λ p apart. refl)
  shares_agree s t u [] (y ∷ ys) ok one two equal = absurd (not_zero (share y.0 ys) (sym (one_more y.0 y ys refl) ∙ sym (equal y.0)))
  shares_agree s t u (x ∷ xs) ys ok one two equal =
      let pulled = pull step good lasts commutes x.0 s one.0 x.1 ys u ok one.1 (inr (share x.0 xs, sym (equal x.0) ∙ one_more x.0 x xs refl)) two in
      let rest = shares_agree one.0 t u xs pulled.rest (lasts s one.0 x.1 x.0 ok one.1) one.2 pulled.leads
      (λ h. cancel h x xs pulled.rest (equal h ∙ ap length (pulled.same (is_of h) (own_apart h)))) in
      (rest.0, λ p apart. ap (λ zs. cond (p x) (x ∷ zs) zs) (rest.1 p apart) ∙ sym (pulled.same p apart))
