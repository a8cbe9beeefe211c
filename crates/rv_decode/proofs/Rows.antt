-- What is known of a word by some of its bits settles which rows it matches.
use Rattle.std.proofs.Common.{◌≡◌, ℕ, Bool, true, false, List, [], ◌∷◌, refl, ap, sym, ◌∙◌, arith}
use Rattle.std.specs.Prelude.{bit_and, ◌==◌, None, IsTrue, not, ◌&&◌, ◌||◌}
use Rattle.std.specs.List.{find, list_all, list_any}
use Rattle.std.specs.Option.{option_map}
use Rattle.std.proofs.lemmas.Nat.{and_comm, and_assoc}
use Rattle.std.proofs.lemmas.Bool.Decides.{nat_tests}
use Rattle.rv_decode.specs.Table.{Row, table, matches, meaning}
use Rattle.std.specs.Int.Bits.{and_self}
use Rattle.std.specs.Prelude.{All, AllPairs}
use Rattle.std.proofs.lemmas.Bool.{eqb-true, and_parts}
use Rattle.std.proofs.lemmas.List.Kept.{AllPairs-cons}
use Rattle.std.proofs.lemmas.List.Elements.{All-cons}

-- at most one row of the table matches: any two differ in a bit that both masks have
abbrev pub apart : Row → Row → Bool
apart r s = not (bit_and r.match s.mask == bit_and s.match r.mask)

abbrev pub all_apart : List Row → Bool
all_apart [] = true
all_apart (r ∷ rs) = list_all (apart r) rs && all_apart rs

pub table_apart : all_apart table ≡ true
unfolding table
table_apart = refl

-- the bits `m` of a word, which are `v`, settle whether it matches a row
abbrev pub settled : ℕ → ℕ → Row → Bool
settled m v r = (bit_and r.mask m == r.mask) || not (bit_and r.match m == bit_and v r.mask)

-- the mask lies inside the known bits
covered : (m v w k : ℕ) → bit_and w m ≡ v → bit_and k m ≡ k → bit_and w k ≡ bit_and v k
covered m v w k e h = sym (ap (λ x. bit_and x k) (sym e) ∙ and_assoc k w m ∙ ap (bit_and w) (and_comm m k ∙ h))

-- a word that matches shows the row's own bits there
shown : (m v w k t : ℕ) → bit_and w m ≡ v → bit_and w k ≡ t → bit_and t m ≡ bit_and v k
shown m v w k t e h =
    ap (λ x. bit_and x m) (sym h) ∙ and_assoc m w k ∙ ap (bit_and w) (and_comm k m) ∙ sym (and_assoc k w m)
    ∙ ap (λ x. bit_and x k) e

-- a word that matches both of two rows shows the same bits in both masks
both_match : (w : ℕ) (r s : Row) → apart r s ≡ true → IsTrue (matches w r) → IsTrue (matches w s) → ⊥
both_match w r s a h k =
    let e : bit_and s.match r.mask ≡ bit_and r.match s.mask = shown r.mask r.match w s.mask s.match (eqb-true _ _ h) (eqb-true _ _ k) in
    grind (arith, nat_tests)

abbrev NeverBoth : Row → Row → Type 0
NeverBoth r s = (w : ℕ) → IsTrue (matches w r) → IsTrue (matches w s) → ⊥

pub each_apart : (rows : List Row) → all_apart rows ≡ true → AllPairs NeverBoth rows
each_apart [] h = λ i j d less within. absurd (omega arith)
each_apart (r ∷ rows) h = AllPairs-cons NeverBoth r rows (from_tests rows (and_parts _ _ h).0) (each_apart rows (and_parts _ _ h).1)
  where
    from_tests : (rest : List Row) → list_all (apart r) rest ≡ true → All (NeverBoth r) rest
    from_tests [] t = λ i d within. absurd (omega arith)
    from_tests (s ∷ rest) t = All-cons (NeverBoth r) s rest (λ w. both_match w r s (and_parts _ _ t).0) (from_tests rest (and_parts _ _ t).1)

known_twice : (m v w : ℕ) → bit_and w m ≡ v → bit_and v m ≡ v
known_twice m v w e =
    ap (λ x. bit_and x m) (sym e) ∙ and_assoc m w m ∙ ap (bit_and w) (and_self m) ∙ e

pub test_settled : (m v w : ℕ) (r : Row) → bit_and w m ≡ v → settled m v r ≡ true → matches w r ≡ matches v r
test_settled m v w r e h =
    let c : bit_and r.mask m ≡ r.mask → bit_and w r.mask ≡ bit_and v r.mask = covered m v w r.mask e in
    let a : bit_and w r.mask ≡ r.match → bit_and r.match m ≡ bit_and v r.mask = shown m v w r.mask r.match e in
    let b : bit_and v r.mask ≡ r.match → bit_and r.match m ≡ bit_and v r.mask = shown m v v r.mask r.match (known_twice m v w e) in
    grind (arith, nat_tests)

-- the rows that a word matches are those that its known bits match
find_settled : (m v w : ℕ) (rows : List Row) → bit_and w m ≡ v → list_all (settled m v) rows ≡ true → find (matches w) rows ≡ find (matches v) rows
find_settled m v w [] e h = refl
find_settled m v w (r ∷ rows) e h =
    let t : matches w r ≡ matches v r = test_settled m v w r e (and_parts _ _ h).0 in
    let u : find (matches w) rows ≡ find (matches v) rows = find_settled m v w rows e (and_parts _ _ h).1 in
    rw (t, u)

-- the bits `m` of a word, which are `v`, settle what it means
pub settle : (m v w : ℕ) → bit_and w m ≡ v → list_all (settled m v) table ≡ true → meaning w ≡ option_map (λ r. r.instr w) (find (matches v) table)
unfolding meaning
settle m v w e h = ap (option_map (λ (r : Row). r.instr w)) (find_settled m v w table e h)

-- a row is ruled out by the bits `m`, which are `v`, or by the bits `n`, which are none of `vs`
abbrev pub refuted : ℕ → ℕ → ℕ → List ℕ → Row → Bool
refuted m v n vs r = not (bit_and r.match m == bit_and v r.mask) || ((bit_and n r.mask == n) && list_any (λ x. bit_and r.match n == x) vs)

pub none_refuted : (m v n w : ℕ) (vs : List ℕ) (r : Row) → bit_and w m ≡ v → list_any (λ x. bit_and w n == x) vs ≡ false → refuted m v n vs r ≡ true
    → matches w r ≡ false
none_refuted m v n w vs r e f h =
    let a : bit_and w r.mask ≡ r.match → bit_and r.match m ≡ bit_and v r.mask = shown m v w r.mask r.match e in
    let b : bit_and w r.mask ≡ r.match → bit_and r.match n ≡ bit_and (bit_and w n) r.mask = λ g. shown n (bit_and w n) w r.mask r.match refl g in
    let c : bit_and n r.mask ≡ n → bit_and (bit_and w n) r.mask ≡ bit_and w n = λ g. and_assoc r.mask w n ∙ ap (bit_and w) g in
    let d : bit_and r.match n ≡ bit_and w n → list_any (λ x. bit_and r.match n == x) vs ≡ false = λ g. ap (λ y. list_any (λ x. y == x) vs) g ∙ f in
    grind (arith, nat_tests)

find_refuted : (m v n w : ℕ) (vs : List ℕ) (rows : List Row) → bit_and w m ≡ v → list_any (λ x. bit_and w n == x) vs ≡ false
    → list_all (refuted m v n vs) rows ≡ true → find (matches w) rows ≡ None
find_refuted m v n w vs [] e f h = refl
find_refuted m v n w vs (r ∷ rows) e f h =
    let t : matches w r ≡ false = none_refuted m v n w vs r e f (and_parts _ _ h).0 in
    rw t (find_refuted m v n w vs rows e f (and_parts _ _ h).1)

pub none_of : (m v n w : ℕ) (vs : List ℕ) → bit_and w m ≡ v → list_any (λ x. bit_and w n == x) vs ≡ false → list_all (refuted m v n vs) table ≡ true
    → meaning w ≡ None
unfolding meaning
none_of m v n w vs e f h = ap (option_map (λ (r : Row). r.instr w)) (find_refuted m v n w vs table e f h)
