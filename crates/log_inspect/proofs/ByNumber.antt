-- Of lists that have the elements of each number in one order, one alone rises: the list by number.
use Rattle.std.proofs.Common.{◌≡◌, ℕ, suc, ◌≤◌, ◌<◌, false, cond, List, [], ◌∷◌, length, drop, slice_get, refl, sym, ap, ap₂, ◌∙◌, subst, inl, inr, arith}
use Rattle.std.specs.Prelude.{◌==◌, nat_le, slice_index_or}
use Rattle.std.specs.List.{filter, AllByRecursion}
use Rattle.std.specs.List.Sorted.{IsNonDecreasingBy}
use Rattle.std.proofs.lemmas.Bool.{cases_Bool, eq-eqb, eqb-true, ne_eqb, leb-true, leb-false}
use Rattle.std.proofs.lemmas.Option.{same_Some}
use Rattle.log_inspect.specs.ByNumber.{placed_by, by_number}

module _ {X : Type 0} (n : X → ℕ) where
  -- no number of the list is below this
  abbrev StartsAt : ℕ → List X → Type 0
  StartsAt b xs = AllByRecursion (λ y. b ≤ n y) xs

  abbrev Rises : List X → Type 0
  Rises [] = Unit {0}
  Rises (x ∷ xs) = StartsAt (n x) xs × Rises xs

  starts_at : (b : ℕ) (xs : List X) → ((j : ℕ) (d : X) → j < length xs → b ≤ n (slice_index_or xs j d)) → StartsAt b xs
  starts_at b [] each = tt
  starts_at b (x ∷ xs) each = (each 0 x (omega arith), starts_at b xs (λ j d l. each (suc j) d (omega (arith, l))))

  starts_below : (a b : ℕ) (xs : List X) → a ≤ b → StartsAt b xs → StartsAt a xs
  starts_below a b [] le s = tt
  starts_below a b (x ∷ xs) le s = let first = s.0 in (omega (arith, le, first), starts_below a b xs le s.1)

  rises : (xs : List X) → IsNonDecreasingBy n xs → Rises xs
  rises [] r = tt
  rises (x ∷ xs) r = (
    starts_at (n x) xs (λ j d l. r 0 (suc j) d (omega arith) (omega (arith, l))),
    rises xs (λ i j d le l. r (suc i) (suc j) d (omega (arith, le)) (omega (arith, l))),
  )

  -- the elements of a number: one more that has it, and one more that hasn't
  hit : (k : ℕ) (x : X) (xs : List X) → n x ≡ k → filter (λ y. n y == k) (x ∷ xs) ≡ x ∷ filter (λ y. n y == k) xs
  hit k x xs is = ap (λ b. cond b (x ∷ filter (λ y. n y == k) xs) (filter (λ y. n y == k) xs)) (eq-eqb (n x) k is)

  miss : (k : ℕ) (x : X) (xs : List X) → (n x == k) ≡ false → filter (λ y. n y == k) (x ∷ xs) ≡ filter (λ y. n y == k) xs
  miss k x xs isnt = ap (λ b. cond b (x ∷ filter (λ y. n y == k) xs) (filter (λ y. n y == k) xs)) isnt

  -- a number that is there is none below the first
  at_least : (b k : ℕ) (z : X) (zs xs : List X) → StartsAt b xs → filter (λ y. n y == k) xs ≡ z ∷ zs → b ≤ k
  at_least b k z zs [] s e = let l = ap length e in absurd (omega (arith, l))
  at_least b k z zs (x ∷ xs) s e = elim (cases_Bool (n x == k)) [
    | inl t ↦ subst (λ m. b ≤ m) (eqb-true (n x) k t) s.0
    | inr f ↦ at_least b k z zs xs s.1 (sym (miss k x xs f) ∙ e)
  ]

  same_list : (xs ys : List X) → Rises xs → Rises ys → ((k : ℕ) → filter (λ y. n y == k) xs ≡ filter (λ y. n y == k) ys) → xs ≡ ys
  same_list [] [] r s each = refl
  same_list [] (y ∷ ys) r s each = let l = ap length (each (n y) ∙ hit (n y) y ys refl) in absurd (omega (arith, l))
  same_list (x ∷ xs) [] r s each = let l = ap length (sym (hit (n x) x xs refl) ∙ each (n x)) in absurd (omega (arith, l))
  same_list (x ∷ xs) (y ∷ ys) r s each =
      let mine = sym (hit (n x) x xs refl) ∙ each (n x) in
      let other = sym (hit (n y) y ys refl) ∙ sym (each (n y)) in
      let low : n y ≤ n x = at_least (n y) (n x) x (filter (λ z. n z == n x) xs) (y ∷ ys) (omega arith, s.0) (sym mine) in
      let high : n x ≤ n y = at_least (n x) (n y) y (filter (λ z. n z == n y) ys) (x ∷ xs) (omega arith, r.0) (sym other) in
      let same : n y ≡ n x = omega (arith, low, high) in
      let firsts = mine ∙ hit (n x) y ys same in
      ap₂ (λ z zs. z ∷ zs) (same_Some x y (ap (λ zs. slice_get zs 0) firsts)) (same_list xs ys r.1 s.1 (λ k. elim (cases_Bool (n x == k)) [
        | inl t ↦
            let is = eqb-true (n x) k t in
            ap (drop 1) (sym (hit k x xs is) ∙ each k ∙ hit k y ys (same ∙ is))
        | inr f ↦ sym (miss k x xs f) ∙ each k ∙ miss k y ys (ap (λ m. m == k) same ∙ f)
      ]))

  -- placing an element leaves those of each number in their order, and a list that rises rising
  passed : (k : ℕ) (x y : X) (ys zs : List X) → n y < n x → filter (λ z. n z == k) zs ≡ filter (λ z. n z == k) (x ∷ ys)
      → filter (λ z. n z == k) (y ∷ zs) ≡ filter (λ z. n z == k) (x ∷ y ∷ ys)
  passed k x y ys zs less same = elim (cases_Bool (n y == k)) [
    | inl t ↦
        let is = eqb-true (n y) k t in
        let isnt : (n x == k) ≡ false = ne_eqb (n x) k (λ e. omega (arith, less, is, e)) in
        hit k y zs is ∙ ap (λ l. y ∷ l) (same ∙ miss k x ys isnt) ∙ sym (hit k y ys is) ∙ sym (miss k x (y ∷ ys) isnt)
    | inr f ↦ miss k y zs f ∙ same ∙ ap (λ l. cond (n x == k) (x ∷ l) l) (sym (miss k y ys f))
  ]

  place_keeps : (k : ℕ) (x : X) (ys : List X) → filter (λ z. n z == k) (placed_by n x ys) ≡ filter (λ z. n z == k) (x ∷ ys)
  place_keeps k x [] = refl
  place_keeps k x (y ∷ ys) = elim (cases_Bool (nat_le (n x) (n y))) [
    | inl t ↦ ap (λ b. filter (λ z. n z == k) (cond b (x ∷ y ∷ ys) (y ∷ placed_by n x ys))) t
    | inr f ↦
        ap (λ b. filter (λ z. n z == k) (cond b (x ∷ y ∷ ys) (y ∷ placed_by n x ys))) f
        ∙ passed k x y ys (placed_by n x ys) (leb-false (n x) (n y) f) (place_keeps k x ys)
  ]

  place_starts : (b : ℕ) (x : X) (ys : List X) → b ≤ n x → StartsAt b ys → StartsAt b (placed_by n x ys)
  place_starts b x [] le s = (le, tt)
  place_starts b x (y ∷ ys) le s = elim (cases_Bool (nat_le (n x) (n y))) [
    | inl t ↦ subst (λ c. StartsAt b (cond c (x ∷ y ∷ ys) (y ∷ placed_by n x ys))) (sym t) (le, s)
    | inr f ↦ subst (λ c. StartsAt b (cond c (x ∷ y ∷ ys) (y ∷ placed_by n x ys))) (sym f) (s.0, place_starts b x ys le s.1)
  ]

  place_rises : (x : X) (ys : List X) → Rises ys → Rises (placed_by n x ys)
  place_rises x [] r = (tt, tt)
  place_rises x (y ∷ ys) r = elim (cases_Bool (nat_le (n x) (n y))) [
    | inl t ↦
        let le = leb-true (n x) (n y) t in
        subst (λ c. Rises (cond c (x ∷ y ∷ ys) (y ∷ placed_by n x ys))) (sym t) ((le, starts_below (n x) (n y) ys le r.0), r)
    | inr f ↦
        let less = leb-false (n x) (n y) f in
        subst (λ c. Rises (cond c (x ∷ y ∷ ys) (y ∷ placed_by n x ys))) (sym f)
        (place_starts (n y) x ys (omega (arith, less)) r.0, place_rises x ys r.1)
  ]

  by_number_keeps : (k : ℕ) (xs : List X) → filter (λ z. n z == k) (by_number n xs) ≡ filter (λ z. n z == k) xs
  by_number_keeps k [] = refl
  by_number_keeps k (x ∷ xs) = place_keeps k x (by_number n xs) ∙ ap (λ l. cond (n x == k) (x ∷ l) l) (by_number_keeps k xs)

  by_number_rises : (xs : List X) → Rises (by_number n xs)
  by_number_rises [] = tt
  by_number_rises (x ∷ xs) = place_rises x (by_number n xs) (by_number_rises xs)

  pub is_by_number : (xs ys : List X) → IsNonDecreasingBy n ys → ((k : ℕ) → filter (λ z. n z == k) ys ≡ filter (λ z. n z == k) xs) → ys ≡ by_number n xs
  is_by_number xs ys r same = same_list ys (by_number n xs) (rises ys r) (by_number_rises xs) (λ k. same k ∙ sym (by_number_keeps k xs))
