-- The harts of a round, by how far they come behind the favoured one.
use Rattle.std.proofs.Common.{◌≡◌, ◌⊎◌, inl, inr, ℕ, zero, ◌+◌, ◌-◌, ◌%◌, ◌<◌, ◌≤◌, sym, ap, ◌∙◌, subst, arith}
use Rattle.std.proofs.lemmas.Bool.Decides.{leb_tells}
use Rattle.std.proofs.Math.Nat.{mod-lt, mod-add-mod, add-mod_left, mod-eq_of_lt}

wrap : (n x : ℕ) → zero < n → x < n + n → ((x < n) × (x % n ≡ x)) ⊎ ((n ≤ x) × (x % n + n ≡ x))
wrap n x pos l = elim (leb_tells n x) [
  | inr (f, m) ↦ inl (omega (arith, m), mod-eq_of_lt (omega (arith, m)))
  | inl (t, m) ↦
      let e : x ≡ n + (x - n) = omega (arith, m) in
      let z : x % n ≡ x - n = ap (λ k. k % n) e ∙ add-mod_left n (x - n) ∙ mod-eq_of_lt (omega (arith, l, m)) in
      inr (m, omega (arith, z, m))
]

module _ (n r : ℕ) (pos : zero < n) where
  abbrev pub at_rank : ℕ → ℕ
  at_rank k = (r + k) % n

  abbrev pub rank : ℕ → ℕ
  rank h = (h + n - r % n) % n

  f_less : r % n < n
  f_less = mod-lt r pos

  pub at_inside : (k : ℕ) → at_rank k < n
  at_inside k = mod-lt (r + k) pos

  pub rank_inside : (h : ℕ) → rank h < n
  rank_inside h = mod-lt (h + n - r % n) pos

  at_is : (k : ℕ) → (r % n + k) % n ≡ at_rank k
  at_is k = mod-add-mod r n k

  ranked : (f k y z : ℕ) → f < n → k < n → y < n → ((f + k < n) × (y ≡ f + k)) ⊎ ((n ≤ f + k) × (y + n ≡ f + k)) → ((y + n - f < n) × (z ≡ y + n - f))
      ⊎ ((n ≤ y + n - f) × (z + n ≡ y + n - f)) → z ≡ k
  ranked f k y z lf lk ly (inl (a, b)) (inl (c, d)) = omega (arith, lf, lk, ly, a, b, c, d)
  ranked f k y z lf lk ly (inl (a, b)) (inr (c, d)) = omega (arith, lf, lk, ly, a, b, c, d)
  ranked f k y z lf lk ly (inr (a, b)) (inl (c, d)) = omega (arith, lf, lk, ly, a, b, c, d)
  ranked f k y z lf lk ly (inr (a, b)) (inr (c, d)) = omega (arith, lf, lk, ly, a, b, c, d)

  wrapped : (x : ℕ) → x < n + n → ((x < n) × (x % n ≡ x)) ⊎ ((n ≤ x) × (x % n + n ≡ x))
  wrapped x l = wrap n x pos l

  -- the hart at a rank has that rank
  pub rank_at : (k : ℕ) → k < n → rank (at_rank k) ≡ k
  rank_at k l =
      let f = f_less in
      let i = at_inside k in
      let one : ((r % n + k < n) × (at_rank k ≡ r % n + k)) ⊎ ((n ≤ r % n + k) × (at_rank k + n ≡ r % n + k)) =
      subst (λ y. ((r % n + k < n) × (y ≡ r % n + k)) ⊎ ((n ≤ r % n + k) × (y + n ≡ r % n + k))) (at_is k) (wrapped (r % n + k) (omega (arith, f, l))) in
      ranked (r % n) k (at_rank k) (rank (at_rank k)) f l i one (wrapped (at_rank k + n - r % n) (omega (arith, i)))

  backed : (f g z y : ℕ) → f < n → g < n → z < n → ((g + n - f < n) × (z ≡ g + n - f)) ⊎ ((n ≤ g + n - f) × (z + n ≡ g + n - f)) → ((f + z < n) × (y ≡ f + z))
      ⊎ ((n ≤ f + z) × (y + n ≡ f + z)) → y ≡ g
  backed f g z y lf lg lz (inl (a, b)) (inl (c, d)) = omega (arith, lf, lg, lz, a, b, c, d)
  backed f g z y lf lg lz (inl (a, b)) (inr (c, d)) = omega (arith, lf, lg, lz, a, b, c, d)
  backed f g z y lf lg lz (inr (a, b)) (inl (c, d)) = omega (arith, lf, lg, lz, a, b, c, d)
  backed f g z y lf lg lz (inr (a, b)) (inr (c, d)) = omega (arith, lf, lg, lz, a, b, c, d)

  -- and a hart is the one at its rank
  pub at_of : (g : ℕ) → g < n → at_rank (rank g) ≡ g
  at_of g l =
      let f = f_less in
      let z = rank_inside g in
      let one : ((r % n + rank g < n) × (at_rank (rank g) ≡ r % n + rank g)) ⊎ ((n ≤ r % n + rank g) × (at_rank (rank g) + n ≡ r % n + rank g)) =
      subst (λ y. ((r % n + rank g < n) × (y ≡ r % n + rank g)) ⊎ ((n ≤ r % n + rank g) × (y + n ≡ r % n + rank g))) (at_is (rank g))
      (wrapped (r % n + rank g) (omega (arith, f, z))) in
      backed (r % n) g (rank g) (at_rank (rank g)) f l z (wrapped (g + n - r % n) (omega (arith, l))) one

  pub same_rank : (g h : ℕ) → g < n → h < n → rank g ≡ rank h → g ≡ h
  same_rank g h l m e = sym (at_of g l) ∙ ap at_rank e ∙ at_of h m
