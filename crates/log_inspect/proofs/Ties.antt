-- Elements of which neither is less have the same number.
use Rattle.std.proofs.Common.{◌≡◌, ℕ, Bool, true, false, cond, List, ap₂, sym, ◌∙◌, arith, ltb, refl, subst}
use Rattle.std.specs.Prelude.{not, ◌&&◌, ◌==◌}
use Rattle.std.specs.Ordering.{is_lt, nat_cmp}
use Rattle.std.specs.List.{filter}
use Rattle.std.specs.List.Sorted.{IsStableByKey, ties}
use Rattle.std.proofs.lemmas.Bool.{eq-eqb, ne_eqb, ltb-true, ltb-false}
use Rattle.std.proofs.lemmas.List.Elements.{filter_agree}
use Rattle.std.specs.declared.cmp.Ordering.TheVariants.{Less, Equal, Greater}

told : (p q : Bool) → is_lt (cond p Less (cond q Equal Greater)) ≡ p
told true q = refl
told false true = refl
told false false = refl

less : (a b : ℕ) → is_lt (nat_cmp a b) ≡ ltb a b
less a b = told (ltb a b) (a == b)

tested : (a b : ℕ) (p q : Bool) → ltb a b ≡ p → ltb b a ≡ q → (not p && not q) ≡ (b == a)
tested a b true q e f = sym (ne_eqb b a (λ s. omega (arith, s, ltb-true a b e)))
tested a b false true e f = sym (ne_eqb b a (λ s. omega (arith, s, ltb-true b a f)))
tested a b false false e f = sym (eq-eqb b a (omega (arith, ltb-false a b e, ltb-false b a f)))

tie : (a b : ℕ) → (not (is_lt (nat_cmp a b)) && not (is_lt (nat_cmp b a))) ≡ (b == a)
tie a b = ap₂ (λ p q. not p && not q) (less a b) (less b a) ∙ tested a b (ltb a b) (ltb b a) refl refl

-- what a stable sort by a number keeps: the elements of each number in their order
pub kept_by_number : {X : Type 0} (n : X → ℕ) (xs ys : List X) → IsStableByKey n nat_cmp xs ys → (x : X) (k : ℕ) → n x ≡ k
    → filter (λ y. n y == k) ys ≡ filter (λ y. n y == k) xs
kept_by_number {X} n xs ys stable x k is =
    let lt : X → X → Bool = λ y z. is_lt (nat_cmp (n y) (n z)) in
    subst (λ m. filter (λ y. n y == m) ys ≡ filter (λ y. n y == m) xs) is
    (filter_agree (λ y. n y == n x) (ties lt x) (λ y. sym (tie (n x) (n y))) ys ∙ stable x
    ∙ filter_agree (ties lt x) (λ y. n y == n x) (λ y. tie (n x) (n y)) xs)
