-- A list of values, one more for the next number.
use Rattle.std.proofs.Common.{◌≡◌, ℕ, suc, ◌+◌, ◌++◌, List, [], ◌∷◌, map, sym, ap, ap₂, ◌∙◌, arith}
use Rattle.std.proofs.lemmas.List.{map-append}
use Rattle.orders_law.specs.Orders.{below}

pub mapped_more : {X : Type 0} (f : ℕ → X) (n : ℕ) (xs : List X) (x : X) → xs ≡ map f (below n) → x ≡ f n → xs ++ x ∷ [] ≡ map f (below (n + 1))
mapped_more f n xs x is here =
    let more : suc n ≡ n + 1 = omega arith in
    ap₂ (λ ys y. ys ++ y ∷ []) is here ∙ sym (map-append f (below n) (n ∷ [])) ∙ ap (λ k. map f (below k)) more
