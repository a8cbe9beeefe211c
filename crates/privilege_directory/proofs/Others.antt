-- The Yields by others among the first ones.
use Rattle.std.proofs.Common.{◌≡◌, ◌≢◌, ◌+◌, ◌<◌, ◌≤◌, ℕ, ◌==◌, not, List, [], ◌∷◌, ◌++◌, take, drop, length, length-append, get_or, ap, ◌∙◌, sym, arith}
use Rattle.std.proofs.lemmas.List.{take_more, take-append-drop}
use Rattle.std.proofs.lemmas.List.Elements.{filter-append}
use Rattle.log_entry.specs.declared.waits.WaitFor.{WaitFor}
use Rattle.privilege_directory.specs.Directory.{by_others}
use Rattle.privilege_directory.proofs.Holds.{others_and_one}

few_so_far : (xs : List WaitFor) (i h : ℕ) → length (by_others h (take i xs)) ≤ length (by_others h xs)
few_so_far xs i h =
    let both : length (by_others h xs) ≡ length (by_others h (take i xs)) + length (by_others h (drop i xs)) =
    ap (λ ys. length (by_others h ys)) (sym (take-append-drop i xs)) ∙ ap length (filter-append (λ (w : WaitFor). not (w.hart == h)) (take i xs) (drop i xs))
    ∙ length-append (by_others h (take i xs)) (by_others h (drop i xs)) in
    omega (arith, both)

pub others_more : (xs : List WaitFor) (i h : ℕ) (d : WaitFor) → i < length xs → (get_or xs i d).hart ≢ h
    → by_others h (take (i + 1) xs) ≡ by_others h (take i xs) ++ get_or xs i d ∷ []
others_more xs i h d l n = ap (by_others h) (take_more xs i d l) ∙ others_and_one (get_or xs i d).hart h (get_or xs i d).count (take i xs) (λ e. n (sym e))

-- a Yield by another makes room for one fewer
pub room_before : (xs : List WaitFor) (i h : ℕ) (d : WaitFor) → i < length xs → (get_or xs i d).hart ≢ h
    → length (by_others h (take i xs)) < length (by_others h xs)
room_before xs i h d l n =
    let more : length (by_others h (take (i + 1) xs)) ≡ length (by_others h (take i xs)) + 1 =
    ap length (others_more xs i h d l n) ∙ length-append (by_others h (take i xs)) (get_or xs i d ∷ []) in
    let most = few_so_far xs (i + 1) h in
    omega (arith, more, most)
