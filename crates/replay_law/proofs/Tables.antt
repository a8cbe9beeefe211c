-- Two harts change the table of holders, either first.
use Rattle.std.proofs.Common.{◌≡◌, ◌≢◌, ℕ, zero, suc, List, [], ◌∷◌, length, Option, Some, None, slice_set, unwrap_or, refl, ap}
use Rattle.std.proofs.lemmas.List.{length-set}
use Rattle.rv_words.specs.declared.shared.Mode.{Mode}
use Rattle.order_rules.specs.Holders.{Holders, row, held, with_held}
use Rattle.shared_types.proofs.Lists.{set_there}
use Rattle.replay_law.proofs.Steps.{holders_by}

pub sets_swap : {X : Type 0} (xs : List X) (i j : ℕ) (a b : X) → i ≢ j → slice_set (slice_set xs i a) j b ≡ slice_set (slice_set xs j b) i a
sets_swap [] i j a b n = refl
sets_swap (x ∷ xs) zero zero a b n = absurd (n refl)
sets_swap (x ∷ xs) zero (suc j) a b n = refl
sets_swap (x ∷ xs) (suc i) zero a b n = refl
sets_swap (x ∷ xs) (suc i) (suc j) a b n = ap (λ zs. x ∷ zs) (sets_swap xs i j a b (λ e. n (ap suc e)))

held_other : (holders : Holders) (page q h g : ℕ) (hold : Option Mode) → g ≢ h → held (with_held holders page h hold) q g ≡ held holders q g
held_other [] page q h g hold n = refl
held_other (r ∷ holders) zero zero h g hold n = ap (λ o. unwrap_or o None) (set_there r h g hold n)
held_other (r ∷ holders) zero (suc q) h g hold n = refl
held_other (r ∷ holders) (suc page) zero h g hold n = refl
held_other (r ∷ holders) (suc page) (suc q) h g hold n = held_other holders page q h g hold n

row_size : (holders : Holders) (page q h : ℕ) (hold : Option Mode) → length (row (with_held holders page h hold) q) ≡ length (row holders q)
row_size [] page q h hold = refl
row_size (r ∷ holders) zero zero h hold = length-set r h hold
row_size (r ∷ holders) zero (suc q) h hold = refl
row_size (r ∷ holders) (suc page) zero h hold = refl
row_size (r ∷ holders) (suc page) (suc q) h hold = row_size holders page q h hold

holds_swap : (holders : Holders) (page q g h : ℕ) (x y : Option Mode) → g ≢ h
    → with_held (with_held holders page g x) q h y ≡ with_held (with_held holders q h y) page g x
holds_swap [] page q g h x y n = refl
holds_swap (r ∷ holders) zero zero g h x y n = ap (λ z. z ∷ holders) (sets_swap r g h x y n)
holds_swap (r ∷ holders) zero (suc q) g h x y n = refl
holds_swap (r ∷ holders) (suc page) zero g h x y n = refl
holds_swap (r ∷ holders) (suc page) (suc q) g h x y n = ap (λ zs. r ∷ zs) (holds_swap holders page q g h x y n)

-- what a hart holds stays when another changes what it holds
pub held_stays : (holders : Holders) (q h g : ℕ) (x : Option (ℕ × Option Mode)) → g ≢ h → held (holders_by holders h x) q g ≡ held holders q g
held_stays holders q h g None n = refl
held_stays holders q h g (Some x) n = held_other holders x.0 q h g x.1 n

pub table_size : (holders : Holders) (h : ℕ) (x : Option (ℕ × Option Mode)) → length (holders_by holders h x) ≡ length holders
table_size holders h None = refl
table_size holders h (Some x) = length-set holders x.0 (slice_set (row holders x.0) h x.1)

pub rows_size : (holders : Holders) (q h : ℕ) (x : Option (ℕ × Option Mode)) → length (row (holders_by holders h x) q) ≡ length (row holders q)
rows_size holders q h None = refl
rows_size holders q h (Some x) = row_size holders x.0 q h x.1

pub tables_meet : (holders : Holders) (g h : ℕ) (x y : Option (ℕ × Option Mode)) → g ≢ h
    → holders_by (holders_by holders g x) h y ≡ holders_by (holders_by holders h y) g x
tables_meet holders g h None y n = refl
tables_meet holders g h (Some x) None n = refl
tables_meet holders g h (Some x) (Some y) n = holds_swap holders x.0 y.0 g h x.1 y.1 n
