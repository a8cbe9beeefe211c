-- What holds of each element of a list and the elements before it.
use Rattle.std.proofs.Common.{◌≡◌, ℕ, zero, suc, ◌+◌, ◌<◌, Bool, true, false, List, [], ◌∷◌, ◌++◌, length, take, Some, slice_get, refl, sym, ap, ◌∙◌}
use Rattle.std.proofs.Common.{subst, ⊎_elim, arith, count_by, cond}
use Rattle.std.proofs.lemmas.Option.{none-some, same_Some, slice_get_within}
use Rattle.std.proofs.lemmas.List.{take-append-le, take_all}
use Rattle.std.proofs.lemmas.List.Sums.{sum_by-append}
use Rattle.shared_types.proofs.Lists.{at_one_more}

abbrev pub EachAfter : {X : Type 0} → (List X → X → Type 0) → List X → Type 0
EachAfter {X} P xs = (i : ℕ) (x : X) → slice_get xs i ≡ Some x → P (take i xs) x

pub each_push : {X : Type 0} (P : List X → X → Type 0) (xs : List X) (y : X) → EachAfter P xs → P xs y → EachAfter P (xs ++ y ∷ [])
each_push {X} P xs y each here i x at =
    ⊎_elim
    (λ l. let less = l.0 in subst (λ b. P b x) (sym (take-append-le i xs (y ∷ []) (omega (arith, less)))) (each i x l.1))
    (λ r. let same = r.0 in subst (λ b. P b x) (sym (take-append-le i xs (y ∷ []) (omega (arith, same))) ∙ refl)
    (subst (λ z. P (take i xs) z) r.1 (subst (λ b. P b y) (sym (take_all i xs (omega (arith, same)))) here)))
    (at_one_more xs y x i at)

pub count_snoc : {X : Type 0} (test : X → Bool) (xs : List X) (y : X) → count_by test (xs ++ y ∷ []) ≡ count_by test xs + count_by test (y ∷ [])
count_snoc test xs y = sum_by-append (λ x. cond {A = ℕ} (test x) 1 0) xs (y ∷ [])

pub count_cons : {X : Type 0} (test : X → Bool) (xs : List X) (y : X) → count_by test (y ∷ xs) ≡ count_by test (y ∷ []) + count_by test xs
count_cons test xs y = sum_by-append (λ x. cond {A = ℕ} (test x) 1 0) (y ∷ []) xs

pub count_one : {X : Type 0} (test : X → Bool) (y : X) → test y ≡ true → count_by test (y ∷ []) ≡ 1
count_one test y e = ap (λ (b : Bool). 0 + cond {A = ℕ} b 1 0) e

pub count_none : {X : Type 0} (test : X → Bool) (y : X) → test y ≡ false → count_by test (y ∷ []) ≡ 0
count_none test y e = ap (λ (b : Bool). 0 + cond {A = ℕ} b 1 0) e

-- more pass before a later one than before one that passes
pub count_below : {X : Type 0} (test : X → Bool) (xs : List X) (i j : ℕ) (x : X) → slice_get xs i ≡ Some x → test x ≡ true → i < j
    → count_by test (take i xs) < count_by test (take j xs)
count_below test xs i zero x at passes l = absurd (omega (arith, l))
count_below test [] i (suc j) x at passes l = absurd (none-some _ at)
count_below test (z ∷ xs) zero (suc j) x at passes l =
    let c = count_cons test (take j xs) z in
    let o = count_one test z (ap test (same_Some _ _ at) ∙ passes) in
    omega (arith, c, o)
count_below test (z ∷ xs) (suc i) (suc j) x at passes l =
    let a = count_cons test (take i xs) z in
    let b = count_cons test (take j xs) z in
    let later = count_below test xs i j x at passes (omega (arith, l)) in
    omega (arith, a, b, later)

-- fewer pass before it than in all
pub count_all : {X : Type 0} (test : X → Bool) (xs : List X) (i : ℕ) (x : X) → slice_get xs i ≡ Some x → test x ≡ true
    → count_by test (take i xs) < count_by test xs
count_all test xs i x at passes = subst (λ ys. count_by test (take i xs) < count_by test ys) (take_all (length xs) xs (omega arith))
    (count_below test xs i (length xs) x at passes (slice_get_within xs i x at))
