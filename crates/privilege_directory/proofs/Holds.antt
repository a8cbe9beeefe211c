-- The holds of one page, and its Yields.
use Rattle.std.proofs.Common.{◌≡◌, ◌≢◌, inl, inr, ℕ, zero, suc, ◌+◌, ◌-◌, ◌==◌, ◌<◌, ◌≤◌, not, false, List, [], ◌∷◌, ◌++◌, length, length-append, set}
use Rattle.std.proofs.Common.{slice_get, slice_set, unwrap_or, Option, Some, None, refl, ap, ◌∙◌, sym, subst, arith}
use Rattle.std.proofs.lemmas.Bool.{cases_eq}
use Rattle.std.proofs.lemmas.Bool.Decides.{eqb_tells}
use Rattle.std.proofs.lemmas.List.{append-nil, length-set, get_or-set_other, get_or-set_same}
use Rattle.std.proofs.lemmas.List.Sums.{sum_by-set, sum_by-cons}
use Rattle.std.proofs.lemmas.List.Elements.{filter-append}
use Rattle.std.proofs.lemmas.Option.{unwrap_or-slice_get}
use Rattle.rv_words.specs.declared.shared.Mode.{Mode}
use Rattle.rv_words.specs.declared.shared.Mode.TheVariants.{Read, Write}
use Rattle.rv_words.specs.declared.shared.TheConstants.{MAX_HARTS}
use Rattle.log_entry.specs.declared.waits.WaitFor.{WaitFor}
use Rattle.log_entry.specs.Parts.{strength, conflict}
use Rattle.privilege_directory.specs.Directory.{by_others, weight, AreFew}

abbrev pub hold : List (Option Mode) → ℕ → Option Mode
hold holds h = unwrap_or (slice_get holds h) None

-- what holds less conflicts no more
pub less_conflict : (left was other : Option Mode) → strength left < strength was → conflict was other ≡ false → conflict left other ≡ false
less_conflict None was other l e = refl
less_conflict (Some Read) None other l e = absurd (omega arith)
less_conflict (Some Read) (Some Read) other l e = absurd (omega arith)
less_conflict (Some Read) (Some Write) None l e = refl
less_conflict (Some Read) (Some Write) (Some m) l e = let bad : ⊥ = cc in absurd bad
less_conflict (Some Write) None other l e = absurd (omega arith)
less_conflict (Some Write) (Some Read) other l e = absurd (omega arith)
less_conflict (Some Write) (Some Write) other l e = absurd (omega arith)

-- beside a reader others are readers at most, beside a writer nothing
pub beside_read : (other : Option Mode) → conflict (Some Read) other ≡ false → strength other ≤ 1
beside_read None e = omega arith
beside_read (Some Read) e = omega arith
beside_read (Some Write) e = let bad : ⊥ = cc in absurd bad

pub beside_write : (other : Option Mode) → conflict (Some Write) other ≡ false → other ≡ None
beside_write None e = refl
beside_write (Some m) e = let bad : ⊥ = cc in absurd bad

pub weight-set : (holds : List (Option Mode)) (h : ℕ) (x : Option Mode) → h < length holds
    → weight (slice_set holds h x) + strength (hold holds h) ≡ weight holds + strength x
weight-set holds h x l = ap (λ o. weight (slice_set holds h x) + strength o) (unwrap_or-slice_get holds h None) ∙ sum_by-set strength holds h x None l

hold_set_other : (holds : List (Option Mode)) (h g : ℕ) (x : Option Mode) → g ≢ h → hold (slice_set holds h x) g ≡ hold holds g
hold_set_other holds h g x n = unwrap_or-slice_get (set holds h x) g None ∙ get_or-set_other holds h g x None n ∙ sym (unwrap_or-slice_get holds g None)

hold_set_same : (holds : List (Option Mode)) (h : ℕ) (x : Option Mode) → h < length holds → hold (slice_set holds h x) h ≡ x
hold_set_same holds h x l = unwrap_or-slice_get (set holds h x) h None ∙ get_or-set_same holds h x None l

set_twice : (holds : List (Option Mode)) (h : ℕ) (x y : Option Mode) → set (set holds h x) h y ≡ set holds h y
set_twice [] h x y = refl
set_twice (z ∷ zs) zero x y = refl
set_twice (z ∷ zs) (suc h) x y = ap (λ ys. z ∷ ys) (set_twice zs h x y)

-- readers alone
ones : (holds : List (Option Mode)) → ((g : ℕ) → g < length holds → strength (hold holds g) ≤ 1) → weight holds ≤ length holds
ones [] h = omega arith
ones (x ∷ xs) h =
    let first : strength x ≤ 1 = h 0 (omega arith) in
    let rest : weight xs ≤ length xs = ones xs (λ g l. h (suc g) (omega arith)) in
    omega (arith, sum_by-cons strength x xs)

-- nobody but one
zeros : (holds : List (Option Mode)) → ((g : ℕ) → g < length holds → hold holds g ≡ None) → weight holds ≡ 0
zeros [] h = refl
zeros (x ∷ xs) h =
    let first : strength x ≡ 0 = ap strength (h 0 (omega arith)) in
    let rest : weight xs ≡ 0 = zeros xs (λ g l. h (suc g) (omega arith)) in
    omega (arith, sum_by-cons strength x xs)

others_of_one : (h g count : ℕ) → g ≢ h → by_others g (record { hart = h; count = count } ∷ []) ≡ record { hart = h; count = count } ∷ []
others_of_one h g count n = elim (eqb_tells h g) [
  | inl (t, e) ↦ absurd (n (sym e))
  | inr (f, d) ↦ rw f refl
]

own_is_none : (h count : ℕ) → by_others h (record { hart = h; count = count } ∷ []) ≡ []
own_is_none h count = elim (eqb_tells h h) [
  | inl (t, e) ↦ rw t refl
  | inr (f, d) ↦ absurd (d refl)
]

pub others_and_one : (h g count : ℕ) (yields : List WaitFor) → g ≢ h
    → by_others g (yields ++ record { hart = h; count = count } ∷ []) ≡ by_others g yields ++ record { hart = h; count = count } ∷ []
others_and_one h g count yields n =
    filter-append (λ (w : WaitFor). not (w.hart == g)) yields (record { hart = h; count = count } ∷ [])
    ∙ ap (λ ys. by_others g yields ++ ys) (others_of_one h g count n)

pub others_and_own : (h count : ℕ) (yields : List WaitFor) → by_others h (yields ++ record { hart = h; count = count } ∷ []) ≡ by_others h yields
others_and_own h count yields =
    filter-append (λ (w : WaitFor). not (w.hart == h)) yields (record { hart = h; count = count } ∷ [])
    ∙ ap (λ ys. by_others h yields ++ ys) (own_is_none h count) ∙ append-nil (by_others h yields)

-- after a Yield there are few
pub few_yielded : (holds : List (Option Mode)) (yields : List WaitFor) (h count : ℕ) (left : Option Mode) → AreFew holds yields → h < length holds
    → strength left < strength (hold holds h)
    → AreFew (slice_set holds h left) (yields ++ record { hart = h; count = count } ∷ [])
few_yielded holds yields h count left few l less =
    let after = weight-set holds h left l in
    let more : length (yields ++ record { hart = h; count = count } ∷ []) ≡ length yields + 1 =
    length-append yields (record { hart = h; count = count } ∷ []) in
    record {
      all = let was = few.all in omega (arith, after, more);
      others = λ g m.
          let inside : g < length holds = omega (arith, m, length-set holds h left) in
          elim (cases_eq g h) [
            | inl e ↦ subst
                (λ z. length (by_others z (yields ++ record { hart = h; count = count } ∷ [])) + weight (slice_set (slice_set holds h left) z None)
                ≤ MAX_HARTS - 1) (sym e)
                (rw (others_and_own h count yields, set_twice holds h left None) (few.others h l))
            | inr n ↦
                let longer : length (by_others g (yields ++ record { hart = h; count = count } ∷ [])) ≡ length (by_others g yields) + 1 =
                ap length (others_and_one h g count yields n) ∙ length-append (by_others g yields) (record { hart = h; count = count } ∷ []) in
                let without = weight-set holds g None inside in
                let then_without = weight-set (slice_set holds h left) g None m in
                let same : strength (hold (slice_set holds h left) g) ≡ strength (hold holds g) = ap strength (hold_set_other holds h g left n) in
                let was = few.others g inside in
                omega (arith, longer, without, then_without, same, was, after)
          ];
    }

-- no other hart stands against the mode
abbrev pub NoneAgainst : List (Option Mode) → ℕ → Mode → Type 0
NoneAgainst holds h mode = (g : ℕ) → g < length holds → g ≢ h → conflict (Some mode) (hold holds g) ≡ false

few_after : (holds : List (Option Mode)) → weight holds ≤ MAX_HARTS → ((g : ℕ) → g < length holds → weight (slice_set holds g None) ≤ MAX_HARTS - 1)
    → AreFew holds []
few_after holds a b = record { all = omega arith; others = λ h l. let c = b h l in omega arith }

read_one : (holds : List (Option Mode)) (h g : ℕ) → h < length holds → NoneAgainst holds h Read → g < length holds
    → strength (hold (slice_set holds h (Some Read)) g) ≤ 1
read_one holds h g l none m = elim (cases_eq g h) [
  | inl e ↦ subst (λ z. strength (hold (slice_set holds h (Some Read)) z) ≤ 1) (sym e)
      (let s : strength (hold (slice_set holds h (Some Read)) h) ≡ 1 = ap strength (hold_set_same holds h (Some Read) l) in omega arith)
  | inr n ↦
      let s : strength (hold (slice_set holds h (Some Read)) g) ≡ strength (hold holds g) = ap strength (hold_set_other holds h g (Some Read) n) in
      let t : strength (hold holds g) ≤ 1 = beside_read (hold holds g) (none g m n) in
      omega arith
]

less_one : (holds : List (Option Mode)) (g : ℕ) → ((k : ℕ) → k < length holds → strength (hold holds k) ≤ 1) → g < length holds
    → weight (slice_set holds g None) + 1 ≤ length holds
less_one [] g h l = absurd (omega arith)
less_one (x ∷ xs) zero h l = let rest : weight xs ≤ length xs = ones xs (λ k m. h (suc k) (omega arith)) in omega (arith, sum_by-cons strength None xs)
less_one (x ∷ xs) (suc g) h l =
    let first : strength x ≤ 1 = h 0 (omega arith) in
    let rest : weight (slice_set xs g None) + 1 ≤ length xs = less_one xs g (λ k m. h (suc k) (omega arith)) (omega arith) in
    omega (arith, sum_by-cons strength x (slice_set xs g None))

-- after a Gain there are none
pub few_gained : (mode : Mode) (holds : List (Option Mode)) (h : ℕ) → length holds ≤ MAX_HARTS → h < length holds → NoneAgainst holds h mode
    → AreFew (slice_set holds h (Some mode)) []
few_gained Read holds h most l none =
    let after = slice_set holds h (Some Read) in
    let size : length (slice_set holds h (Some Read)) ≡ length holds = length-set holds h (Some Read) in
    let each = λ (g : ℕ) (m : g < length (slice_set holds h (Some Read))). read_one holds h g l none (omega (arith, m, size)) in
    few_after (slice_set holds h (Some Read))
    (let w = ones (slice_set holds h (Some Read)) each in omega (arith, w, size))
    (λ g m. let w = less_one (slice_set holds h (Some Read)) g each m in omega (arith, w, size))
few_gained Write holds h most l none =
    let alone : weight (slice_set holds h None) ≡ 0 = zeros (slice_set holds h None) (λ g m. elim (cases_eq g h) [
      | inl e ↦ ap (hold (slice_set holds h None)) e ∙ hold_set_same holds h None l
      | inr n ↦ hold_set_other holds h g None n ∙ beside_write (hold holds g) (none g (omega (arith, m, length-set holds h None)) n)
    ]) in
    let before = weight-set holds h None l in
    let after = weight-set holds h (Some Write) l in
    let heavy : weight (slice_set holds h (Some Write)) ≡ 2 = omega (arith, alone, before, after) in
    few_after (slice_set holds h (Some Write)) (omega (arith, heavy))
    (λ g m. let w = weight-set (slice_set holds h (Some Write)) g None m in omega (arith, w, heavy))
