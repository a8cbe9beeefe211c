-- A text of the numbers of a range, and of one further.
use Rattle.std.proofs.Common.{◌≡◌, ℕ, suc, ◌+◌, ◌-◌, ◌≤◌, List, [], ◌∷◌, ◌++◌, ap, ◌∙◌, sym, arith}
use Rattle.std.specs.List.{flat_map, range_with_len}
use Rattle.std.proofs.lemmas.List.{flat_map_more}
use Rattle.shared_types.proofs.Ranges.{range_more}

pub next_of_range : (f : ℕ → List ℕ) (bs : List ℕ) (a n : ℕ) → a ≤ n
    → (bs ++ flat_map f (range_with_len a (n - a))) ++ f n ≡ bs ++ flat_map f (range_with_len a (n + 1 - a))
next_of_range f bs a n le =
    let m : a + (n - a) ≡ n = omega (arith, le) in
    let k : suc (n - a) ≡ n + 1 - a = omega (arith, le) in
    flat_map_more f bs (range_with_len a (n - a)) n
    ∙ ap (λ ys. bs ++ flat_map f ys) (ap (λ z. range_with_len a (n - a) ++ (z ∷ [])) (sym m) ∙ sym (range_more a (n - a)) ∙ ap (range_with_len a) k)
