-- Small lemmas on lists by place, on options and on conditionals, that std doesn't have and that several crates
-- cite: elements of a list after a write, of a mapped, longer or shorter list, tests over lists, what an option
-- is by its answer, and what a conditional with an answer tells.
--
-- std's serve the rest: slice_get_within and slice_get_past (an element's place is within; past the end is none),
-- slice_get-get_or xs i 0 (within, the element is `slice_index xs i`), get_or_from_slice_get xs i k 0 (the other way),
-- get_or-set_other (`slice_index` after a write elsewhere), length-set, length-replicate, get_or-replicate,
-- lt-ltb, ltb-true, le-ltb, ltb-false, le-leb, leb-true, leb-false, eq-eqb, eqb-true, ne_eqb (comparisons and what
-- they tell), and_parts, and_from, and_left, and_right, or_parts, or_from, or_left, or_right, false_from_ne_true,
-- cases_Bool, none-some, same_Some, cond_some, find-append, map-append, list_any-append.
use Rattle.std.proofs.Common.{◌≡◌, ◌≢◌, ◌⊎◌, inl, inr, ⊎_elim, ℕ, zero, suc, ◌<◌, Bool, true, false, cond, ◌||◌, if◌then◌else◌, List, [], ◌∷◌, ◌++◌, length}
use Rattle.std.proofs.Common.{map, take, replicate, find, slice_get, slice_set, Option, Some, None, is_some, is_none, option_map, option_and_then, refl, sym}
use Rattle.std.proofs.Common.{ap, ◌∙◌, subst, true≢false, arith}
use Rattle.std.specs.List.{list_any, list_all}
use Rattle.std.specs.Option.{option_or}
use Rattle.std.proofs.lemmas.Bool.{and_from, and_parts, or_from, or_parts, or_left, or_right}
use Rattle.std.proofs.lemmas.List.Folds.{list_any-append}
use Rattle.std.proofs.lemmas.Option.{none-some, same_Some, slice_get-map}

module _ {X : Type 0} where
  -- after a write: here the new element, there the old one; and a place within has an element
  pub set_here : (xs : List X) (i : ℕ) (x : X) → i < length xs → slice_get (slice_set xs i x) i ≡ Some x
  set_here [] i x l = absurd (omega (arith, l))
  set_here (y ∷ xs) zero x l = refl
  set_here (y ∷ xs) (suc i) x l = set_here xs i x (omega (arith, l))

  pub set_there : (xs : List X) (i j : ℕ) (x : X) → j ≢ i → slice_get (slice_set xs i x) j ≡ slice_get xs j
  set_there [] i j x n = refl
  set_there (y ∷ xs) zero zero x n = absurd (n refl)
  set_there (y ∷ xs) zero (suc j) x n = refl
  set_there (y ∷ xs) (suc i) zero x n = refl
  set_there (y ∷ xs) (suc i) (suc j) x n = set_there xs i j x (λ e. n (ap suc e))

  pub set_where : (xs : List X) (i : ℕ) (x y : X) → slice_get xs i ≡ Some y → slice_get (slice_set xs i x) i ≡ Some x
  set_where [] i x y e = absurd (none-some _ e)
  set_where (z ∷ xs) zero x y e = refl
  set_where (z ∷ xs) (suc i) x y e = set_where xs i x y e

  pub sets_swap : (xs : List X) (i j : ℕ) (a b : X) → i ≢ j → slice_set (slice_set xs i a) j b ≡ slice_set (slice_set xs j b) i a
  sets_swap [] i j a b n = refl
  sets_swap (y ∷ xs) zero zero a b n = absurd (n refl)
  sets_swap (y ∷ xs) zero (suc j) a b n = refl
  sets_swap (y ∷ xs) (suc i) zero a b n = refl
  sets_swap (y ∷ xs) (suc i) (suc j) a b n = ap (λ zs. y ∷ zs) (sets_swap xs i j a b (λ e. n (ap suc e)))

  pub found_at : (xs : List X) (i : ℕ) → i < length xs → (x : X) × (slice_get xs i ≡ Some x)
  found_at [] i l = absurd (omega (arith, l))
  found_at (x ∷ xs) zero l = (x, refl)
  found_at (x ∷ xs) (suc i) l = found_at xs i (omega (arith, l))

  -- lists with the same element at each place are the same
  pub same_list : (xs ys : List X) → ((i : ℕ) → slice_get xs i ≡ slice_get ys i) → xs ≡ ys
  same_list [] [] f = refl
  same_list [] (y ∷ ys) f = absurd (none-some _ (f 0))
  same_list (x ∷ xs) [] f = absurd (none-some _ (sym (f 0)))
  same_list (x ∷ xs) (y ∷ ys) f = ap (λ z. z ∷ xs) (same_Some _ _ (f 0)) ∙ ap (λ zs. y ∷ zs) (same_list xs ys (λ i. f (suc i)))

  -- of a longer list: an element of its front, its last one, and which of the two an element is
  pub at_front : (xs ys : List X) (x : X) (i : ℕ) → slice_get xs i ≡ Some x → slice_get (xs ++ ys) i ≡ Some x
  at_front [] ys x i e = absurd (none-some _ e)
  at_front (z ∷ xs) ys x zero e = e
  at_front (z ∷ xs) ys x (suc i) e = at_front xs ys x i e

  pub at_end : (xs : List X) (y : X) → slice_get (xs ++ y ∷ []) (length xs) ≡ Some y
  at_end [] y = refl
  at_end (z ∷ xs) y = at_end xs y

  at_later : (z y x : X) (xs : List X) (i : ℕ) → ((i < length xs) × (slice_get xs i ≡ Some x)) ⊎ ((i ≡ length xs) × (y ≡ x))
      → ((suc i < length (z ∷ xs)) × (slice_get (z ∷ xs) (suc i) ≡ Some x)) ⊎ ((suc i ≡ length (z ∷ xs)) × (y ≡ x))
  at_later z y x xs i (inl l) = let a = l.0 in inl (omega (arith, a), l.1)
  at_later z y x xs i (inr r) = let a = r.0 in inr (ap suc a, r.1)

  pub at_one_more : (xs : List X) (y x : X) (i : ℕ) → slice_get (xs ++ y ∷ []) i ≡ Some x
      → ((i < length xs) × (slice_get xs i ≡ Some x)) ⊎ ((i ≡ length xs) × (y ≡ x))
  at_one_more [] y x zero e = inr (refl, same_Some _ _ e)
  at_one_more [] y x (suc i) e = absurd (none-some _ e)
  at_one_more (z ∷ xs) y x zero e = inl (omega arith, e)
  at_one_more (z ∷ xs) y x (suc i) e = at_later z y x xs i (at_one_more xs y x i e)

  -- of the first n elements
  pub get_take : (xs : List X) (n i : ℕ) → i < n → slice_get (take n xs) i ≡ slice_get xs i
  get_take [] zero i l = refl
  get_take [] (suc n) i l = refl
  get_take (x ∷ xs) zero i l = absurd (omega (arith, l))
  get_take (x ∷ xs) (suc n) zero l = refl
  get_take (x ∷ xs) (suc n) (suc i) l = get_take xs n i (omega (arith, l))

  pub in_take : (xs : List X) (n i : ℕ) (x : X) → slice_get (take n xs) i ≡ Some x → (i < n) × (slice_get xs i ≡ Some x)
  in_take [] zero i x e = absurd (none-some _ e)
  in_take [] (suc n) i x e = absurd (none-some _ e)
  in_take (y ∷ xs) zero i x e = absurd (none-some _ e)
  in_take (y ∷ xs) (suc n) zero x e = (omega arith, e)
  in_take (y ∷ xs) (suc n) (suc i) x e = let r = in_take xs n i x e in let l = r.0 in (omega (arith, l), r.1)

  pub get_replicate : (n i : ℕ) (x : X) → i < n → slice_get (replicate n x) i ≡ Some x
  get_replicate zero i x l = absurd (omega (arith, l))
  get_replicate (suc n) zero x l = refl
  get_replicate (suc n) (suc i) x l = get_replicate n i x (omega (arith, l))

-- an element of a mapped list, and what it was
pub get_map : {X Y : Type 0} (f : X → Y) (xs : List X) (i : ℕ) (x : X) → slice_get xs i ≡ Some x → slice_get (map f xs) i ≡ Some (f x)
get_map f xs i x e = slice_get-map f xs i ∙ ap (option_map f) e

pub map_at : {X Y : Type 0} (f : X → Y) (xs : List X) (i : ℕ) (y : Y) → slice_get (map f xs) i ≡ Some y → (x : X) × (slice_get xs i ≡ Some x) × (f x ≡ y)
map_at f [] i y e = absurd (none-some _ e)
map_at f (x ∷ xs) zero y e = (x, refl, same_Some _ _ e)
map_at f (x ∷ xs) (suc i) y e = map_at f xs i y e

-- Tests over a list: what some, none or all elements pass, from each place and at each place.
module _ {X : Type 0} (test : X → Bool) where
  pub any_there : (xs : List X) (i : ℕ) (x : X) → slice_get xs i ≡ Some x → test x ≡ true → list_any test xs ≡ true
  any_there [] i x at t = absurd (none-some _ at)
  any_there (y ∷ xs) zero x at t = or_left (test y) (list_any test xs) (ap test (same_Some _ _ at) ∙ t)
  any_there (y ∷ xs) (suc i) x at t = or_right (test y) (list_any test xs) (any_there xs i x at t)

  pub none_there : (xs : List X) → ((i : ℕ) (x : X) → slice_get xs i ≡ Some x → test x ≡ false) → list_any test xs ≡ false
  none_there [] each = refl
  none_there (y ∷ xs) each = or_from (test y) (list_any test xs) (each 0 y refl) (none_there xs (λ i x at. each (suc i) x at))

  pub all_there : (xs : List X) → ((i : ℕ) (x : X) → slice_get xs i ≡ Some x → test x ≡ true) → list_all test xs ≡ true
  all_there [] each = refl
  all_there (y ∷ xs) each = and_from (test y) (list_all test xs) (each 0 y refl) (all_there xs (λ i x at. each (suc i) x at))

  pub all_at : (xs : List X) (i : ℕ) (x : X) → list_all test xs ≡ true → slice_get xs i ≡ Some x → test x ≡ true
  all_at [] i x all at = absurd (none-some _ at)
  all_at (y ∷ xs) zero x all at = ap test (sym (same_Some _ _ at)) ∙ (and_parts (test y) (list_all test xs) all).0
  all_at (y ∷ xs) (suc i) x all at = all_at xs i x (and_parts (test y) (list_all test xs) all).1 at

  pub none_at : (xs : List X) (i : ℕ) (x : X) → list_any test xs ≡ false → slice_get xs i ≡ Some x → test x ≡ false
  none_at [] i x none at = absurd (none-some _ at)
  none_at (y ∷ xs) zero x none at = ap test (sym (same_Some _ _ at)) ∙ (or_parts (test y) (list_any test xs) none).0
  none_at (y ∷ xs) (suc i) x none at = none_at xs i x (or_parts (test y) (list_any test xs) none).1 at

  pub one_passes : (xs ys : List X) → list_any test xs ≡ true → list_any test (xs ++ ys) ≡ true
  one_passes xs ys e = list_any-append test xs ys ∙ or_left (list_any test xs) (list_any test ys) e

  pub last_passes : (xs : List X) (y : X) → test y ≡ true → list_any test (xs ++ y ∷ []) ≡ true
  last_passes xs y e = list_any-append test xs (y ∷ []) ∙ or_right (list_any test xs) (test y || false) (or_left (test y) false e)

  find_step : (b : Bool) (z x : X) (rest : Option X) → cond b (Some z) rest ≡ Some x → ((b ≡ true) × (z ≡ x)) ⊎ ((b ≡ false) × (rest ≡ Some x))
  find_step true z x rest e = inl (refl, same_Some _ _ e)
  find_step false z x rest e = inr (refl, e)

  -- what is found has a place and passes; equal tests find the same
  pub find_place : (xs : List X) (x : X) → find test xs ≡ Some x → (i : ℕ) × (slice_get xs i ≡ Some x) × (test x ≡ true)
  find_place [] x e = absurd (none-some _ e)
  find_place (z ∷ xs) x e = ⊎_elim
      (λ t. (0, ap Some t.1, subst (λ y. test y ≡ true) t.1 t.0))
      (λ f. let r = find_place xs x f.1 in (suc r.0, r.1, r.2))
      (find_step (test z) z x (find test xs) e)

  pub find_same : (other : X → Bool) (xs : List X) → ((x : X) → test x ≡ other x) → find test xs ≡ find other xs
  find_same other [] same = refl
  find_same other (x ∷ xs) same = ap (λ b. cond b (Some x) (find test xs)) (same x) ∙ ap (cond (other x) (Some x)) (find_same other xs same)

module _ {X : Type 0} where
  -- what an option is, by what is known of it
  pub is_nothing : (o : Option X) → is_some o ≡ false → o ≡ None
  is_nothing None e = refl
  is_nothing (Some x) e = absurd (true≢false e)

  pub is_none_so : (o : Option X) → is_none o ≡ true → o ≡ None
  is_none_so None e = refl
  is_none_so (Some x) e = absurd (true≢false (sym e))

  pub is_there : (o : Option X) → is_some o ≡ true → (x : X) × (o ≡ Some x)
  is_there None e = absurd (true≢false (sym e))
  is_there (Some x) e = (x, refl)

  pub neither_there : (a b : Option X) → option_or a b ≡ None → (a ≡ None) × (b ≡ None)
  neither_there None b e = (refl, e)
  neither_there (Some x) b e = absurd (none-some _ (sym e))

  -- conditionals whose one arm is None: an answer tells the test, no answer the other
  pub not_found : (b : Bool) (x : X) → cond b (Some x) None ≡ None → b ≡ false
  not_found true x e = absurd (none-some _ (sym e))
  not_found false x e = refl

  pub unless : (b : Bool) (o : Option X) (x : X) → (if b then None else o) ≡ Some x → o ≡ Some x
  unless true o x e = absurd (none-some _ e)
  unless false o x e = e

  pub not_chosen : (b : Bool) (o : Option X) (x : X) → (if b then None else o) ≡ Some x → b ≡ false
  not_chosen true o x e = absurd (none-some _ e)
  not_chosen false o x e = refl

  pub chosen : (b : Bool) (v x : X) → (if b then None else Some v) ≡ Some x → (b ≡ false) × (v ≡ x)
  chosen true v x e = absurd (none-some _ e)
  chosen false v x e = (refl, same_Some _ _ e)

module _ {X Y : Type 0} where
  -- what stood under a map or a continuation that has an answer
  pub bound_to : (f : X → Option Y) (o : Option X) (y : Y) → option_and_then f o ≡ Some y → (x : X) × (o ≡ Some x) × (f x ≡ Some y)
  bound_to f None y e = absurd (none-some _ e)
  bound_to f (Some x) y e = (x, refl, e)

  pub mapped : (f : X → Y) (o : Option X) (y : Y) → option_map f o ≡ Some y → (x : X) × (o ≡ Some x) × (f x ≡ y)
  mapped f None y e = absurd (none-some _ e)
  mapped f (Some x) y e = (x, refl, same_Some _ _ e)

  pub nothing_mapped : (f : X → Y) (o : Option X) → option_map f o ≡ None → o ≡ None
  nothing_mapped f None e = refl
  nothing_mapped f (Some x) e = absurd (none-some _ (sym e))
