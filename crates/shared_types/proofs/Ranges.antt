-- One further number of a range, and one further element of a list whose elements are numbered from 0: what a text
-- or a list of them gains by it.
use Rattle.std.proofs.Common.{◌≡◌, ℕ, zero, suc, ◌+◌, ◌<◌, length, get_or, List, [], ◌∷◌, ◌++◌, take, ap, sym, ◌∙◌, arith}
use Rattle.std.specs.Prelude.{slice_get, Some}
use Rattle.std.specs.List.{flat_map, enumerate_from, range_with_len}
use Rattle.std.proofs.lemmas.List.{flat_map_more}
use Rattle.std.proofs.lemmas.Option.{none-some, same_Some, slice_get-get_or}

pub range_more : (a n : ℕ) → range_with_len a (suc n) ≡ range_with_len a n ++ (a + n) ∷ []
range_more a zero = ap (λ k. k ∷ []) (none_more a) where
  none_more : (a : ℕ) → a ≡ a + 0
  none_more a = omega arith
range_more a (suc n) = ap (λ ks. a ∷ ks) (range_more (a + 1) n) ∙ ap (λ k. a ∷ (range_with_len (a + 1) n ++ k ∷ [])) (one_more a n) where
  one_more : (a n : ℕ) → a + 1 + n ≡ a + suc n
  one_more a n = omega arith

-- the numbers from 0 on
pub range_next : (n : ℕ) → range_with_len 0 (n + 1) ≡ range_with_len 0 n ++ n ∷ []
range_next n =
    let next : n + 1 ≡ suc n = omega arith in
    let from_zero : 0 + n ≡ n = omega arith in
    ap (range_with_len 0) next ∙ range_more 0 n ∙ ap (λ k. range_with_len 0 n ++ k ∷ []) from_zero

numbered_more : {X : Type 0} (k : ℕ) (xs : List X) (n : ℕ) (x : X) → slice_get xs n ≡ Some x
    → enumerate_from k (take (suc n) xs) ≡ enumerate_from k (take n xs) ++ ((k + n, x) ∷ [])
numbered_more k [] n x at = absurd (none-some _ at)
numbered_more {X} k (y ∷ ys) zero x at =
    let e : k ≡ k + 0 = omega arith in
    ap {B = List (ℕ × X)} (λ m. (m, y) ∷ []) e ∙ ap {B = List (ℕ × X)} (λ z. (k + 0, z) ∷ []) (same_Some _ _ at)
numbered_more {X} k (y ∷ ys) (suc n) x at =
    let e : (k + 1) + n ≡ k + suc n = omega arith in
    ap {B = List (ℕ × X)} (λ zs. (k, y) ∷ zs)
    (numbered_more (k + 1) ys n x at ∙ ap {B = List (ℕ × X)} (λ m. enumerate_from (k + 1) (take n ys) ++ ((m, x) ∷ [])) e)

pub numbered_next : {X : Type 0} (xs : List X) (n : ℕ) (x : X) → n < length xs → x ≡ get_or xs n x
    → enumerate_from 0 (take (n + 1) xs) ≡ enumerate_from 0 (take n xs) ++ ((n, x) ∷ [])
numbered_next {X} xs n x less is =
    let there : slice_get xs n ≡ Some x = slice_get-get_or xs n x less ∙ ap Some (sym is) in
    let next : n + 1 ≡ suc n = omega arith in
    let from_zero : 0 + n ≡ n = omega arith in
    ap (λ m. enumerate_from 0 (take m xs)) next
    ∙ numbered_more 0 xs n x there
    ∙ ap {B = List (ℕ × X)} (λ m. enumerate_from 0 (take n xs) ++ ((m, x) ∷ [])) from_zero

-- a text of so many, and behind it the line of the next one
pub one_line_more : {X Y : Type 0} (g : ℕ × X → List Y) (xs : List X) (n : ℕ) (x : X) (old now next : List Y) → n < length xs → x ≡ get_or xs n x
    → now ≡ old ++ flat_map g (enumerate_from 0 (take n xs)) → next ≡ now ++ g (n, x)
    → next ≡ old ++ flat_map g (enumerate_from 0 (take (n + 1) xs))
one_line_more g xs n x old now next less is so more =
    more ∙ ap (λ z. z ++ g (n, x)) so
    ∙ flat_map_more g old (enumerate_from 0 (take n xs)) (n, x)
    ∙ ap (λ ys. old ++ flat_map g ys) (sym (numbered_next xs n x less is))
