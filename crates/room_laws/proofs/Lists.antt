-- Tests, counts and searches over mapped lists.
use Rattle.std.proofs.Common.{◌≡◌, ℕ, ◌+◌, Bool, true, false, cond, ◌||◌, List, [], ◌∷◌, ◌++◌, map, find, Option, Some, option_map, refl, sym, ap, ◌∙◌}
use Rattle.std.specs.List.{list_any, count_by, filter_map, cons_option, flat_map, enumerate_from}
use Rattle.std.proofs.lemmas.List.{map-append}
use Rattle.std.proofs.lemmas.List.Folds.{fold-map}

module _ {X Y : Type 0} (f : X → Y) where
  pub any_mapped : (test : Y → Bool) (xs : List X) → list_any test (map f xs) ≡ list_any (λ x. test (f x)) xs
  any_mapped test [] = refl
  any_mapped test (x ∷ xs) = ap (λ b. test (f x) || b) (any_mapped test xs)

  pub count_mapped : (test : Y → Bool) (xs : List X) → count_by test (map f xs) ≡ count_by (λ x. test (f x)) xs
  count_mapped test xs = fold-map (λ n y. n + cond (test y) 1 0) f 0 xs

  found : (b : Bool) (x : X) (a : Option Y) (o : Option X) → a ≡ option_map f o → cond b (Some (f x)) a ≡ option_map f (cond b (Some x) o)
  found b x a o e = ap (cond b (Some (f x))) e ∙ by b
    where
      by : (b : Bool) → cond b (Some (f x)) (option_map f o) ≡ option_map f (cond b (Some x) o)
      by true = refl
      by false = refl

  pub find_mapped : (test : Y → Bool) (xs : List X) → find test (map f xs) ≡ option_map f (find (λ x. test (f x)) xs)
  find_mapped test [] = refl
  find_mapped test (x ∷ xs) = found (test (f x)) x (find test (map f xs)) (find (λ y. test (f y)) xs) (find_mapped test xs)

  pub joined_mapped : (xss : List (List X)) → flat_map (λ xs. xs) (map (map f) xss) ≡ map f (flat_map (λ xs. xs) xss)
  joined_mapped [] = refl
  joined_mapped (xs ∷ xss) = ap (λ ys. map f xs ++ ys) (joined_mapped xss) ∙ sym (map-append f xs (flat_map (λ ys. ys) xss))

  pub numbered_mapped : (n : ℕ) (xs : List X) → enumerate_from n (map f xs) ≡ map (λ x. (x.0, f x.1)) (enumerate_from n xs)
  numbered_mapped n [] = refl
  numbered_mapped n (x ∷ xs) = ap (λ ys. (n, f x) ∷ ys) (numbered_mapped (n + 1) xs)

  pub kept_mapped : {Z : Type 0} (g : Y → Option Z) (xs : List X) → filter_map g (map f xs) ≡ filter_map (λ x. g (f x)) xs
  kept_mapped g [] = refl
  kept_mapped g (x ∷ xs) = ap (cons_option (g (f x))) (kept_mapped g xs)

  pub map_twice : {Z : Type 0} (g : Y → Z) (xs : List X) → map g (map f xs) ≡ map (λ x. g (f x)) xs
  map_twice g [] = refl
  map_twice g (x ∷ xs) = ap (λ ys. g (f x) ∷ ys) (map_twice g xs)

  pub map_each : {W : Type 0} (g : W → List X) (ws : List W) → flat_map (λ w. map f (g w)) ws ≡ map f (flat_map g ws)
  map_each g [] = refl
  map_each g (w ∷ ws) = ap (λ ys. map f (g w) ++ ys) (map_each g ws) ∙ sym (map-append f (g w) (flat_map g ws))
