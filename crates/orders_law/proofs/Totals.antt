-- Sums of lists of numbers, part by part: what bounds how long an order can go on.
use Rattle.std.proofs.Common.{◌≡◌, ℕ, zero, suc, ◌+◌, ◌<◌, ◌≤◌, List, [], ◌∷◌, map, length, slice_get, slice_index, unwrap_or, refl, arith}
use Rattle.orders_law.specs.Orders.{total}

pub total_least : (xs ys : List ℕ) → length xs ≡ length ys → ((i : ℕ) → i < length xs → slice_index xs i ≤ slice_index ys i) → total xs ≤ total ys
total_least [] ys long each = omega arith
total_least (x ∷ xs) [] long each = absurd (omega (arith, long))
total_least (x ∷ xs) (y ∷ ys) long each =
    let here : x ≤ y = each 0 (omega arith) in
    let rest = total_least xs ys (omega (arith, long)) (λ i l. each (suc i) (omega (arith, l))) in
    omega (arith, here, rest)

pub total_more : (xs ys : List ℕ) (h : ℕ) → length xs ≡ length ys → h < length xs → ((i : ℕ) → i < length xs → slice_index xs i ≤ slice_index ys i)
    → slice_index xs h + 1 ≤ slice_index ys h → total xs + 1 ≤ total ys
total_more [] ys h long inside each more = absurd (omega (arith, inside))
total_more (x ∷ xs) [] h long inside each more = absurd (omega (arith, long))
total_more (x ∷ xs) (y ∷ ys) zero long inside each more =
    let here : x + 1 ≤ y = more in
    let rest = total_least xs ys (omega (arith, long)) (λ i l. each (suc i) (omega (arith, l))) in
    omega (arith, here, rest)
total_more (x ∷ xs) (y ∷ ys) (suc h) long inside each more =
    let here : x ≤ y = each 0 (omega arith) in
    let rest = total_more xs ys h (omega (arith, long)) (omega (arith, inside)) (λ i l. each (suc i) (omega (arith, l))) more in
    omega (arith, here, rest)

pub index_map : {X : Type 0} (f : List X → ℕ) (xs : List (List X)) (i : ℕ) → i < length xs → slice_index (map f xs) i ≡ f (unwrap_or (slice_get xs i) [])
index_map f [] i l = absurd (omega (arith, l))
index_map f (x ∷ xs) zero l = refl
index_map f (x ∷ xs) (suc i) l = index_map f xs i (omega (arith, l))
