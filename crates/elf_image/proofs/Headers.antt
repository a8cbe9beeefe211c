-- The program headers that are left once some were read.
use Rattle.std.proofs.Common.{◌∙◌, ℕ, ◌≡◌, ◌+◌, ◌-◌, ◌*◌, ◌<◌, ◌≤◌, List, [], ◌∷◌, refl, sym, ap, arith, zero, suc}
use Rattle.std.proofs.Common.{Bool, true, false}
use Rattle.std.proofs.lemmas.Bool.{or_parts}
use Rattle.std.specs.List.{list_any}
use Rattle.elf_image.specs.Elf.{segment_at, segments_from, segments, table, headers}
use Rattle.elf_image.specs.declared.elf.Segment.{Segment}

abbrev pub rest : List ℕ → ℕ → List Segment
rest file index = segments_from file (table file + 32 * index) (headers file - index)

pub from_step : (file : List ℕ) (at n m next : ℕ) → n ≡ suc m → next ≡ at + 32 → segments_from file at n ≡ segment_at file at ∷ segments_from file next m
from_step file at n m next e f = rw e (rw f refl)

pub rest_step : (file : List ℕ) (index : ℕ) → index < headers file → rest file index ≡ segment_at file (table file + 32 * index) ∷ rest file (index + 1)
rest_step file index l =
    from_step file (table file + 32 * index) (headers file - index) (headers file - (index + 1)) (table file + 32 * (index + 1)) (omega (arith, l))
    (omega arith)

pub rest_end : (file : List ℕ) (index : ℕ) → headers file ≤ index → rest file index ≡ []
rest_end file index l = let e : headers file - index ≡ 0 = omega (arith, l) in rw e refl

pub any_here : (p : Segment → Bool) (file : List ℕ) (index : ℕ) (s : Segment) → index < headers file → s ≡ segment_at file (table file + 32 * index)
    → p s ≡ true → list_any p (rest file index) ≡ true
any_here p file index s l is e = rw (rest_step file index l) (rw (sym is) (rw e refl))

pub any_later : (p : Segment → Bool) (file : List ℕ) (index : ℕ) (s : Segment) → index < headers file → s ≡ segment_at file (table file + 32 * index)
    → p s ≡ false → list_any p (rest file index) ≡ list_any p (rest file (index + 1))
any_later p file index s l is e = rw (rest_step file index l) (rw (sym is) (rw e refl))

pub rest_all : (file : List ℕ) → rest file 0 ≡ segments file
rest_all file =
    let from : table file + 32 * 0 ≡ table file = omega arith in
    let all : headers file - 0 ≡ headers file = omega arith in
    ap (λ k. segments_from file k (headers file - 0)) from ∙ ap (segments_from file (table file)) all

none_from : (p : Segment → Bool) (file : List ℕ) (at n k place : ℕ) → k < n → place ≡ at + 32 * k → list_any p (segments_from file at n) ≡ false
    → p (segment_at file place) ≡ false
none_from p file at zero k place l e none = absurd (omega (arith, l))
none_from p file at (suc n) zero place l e none = let here : place ≡ at = omega (arith, e) in ap (λ k. p (segment_at file k)) here ∙ (or_parts _ _ none).0
none_from p file at (suc n) (suc k) place l e none =
    none_from p file (at + 32) n k place (omega (arith, l)) (omega (arith, e)) (or_parts (p (segment_at file at)) _ none).1

-- where none passes, the one at a place doesn't
pub none_at : (p : Segment → Bool) (file : List ℕ) (index : ℕ) → index < headers file → list_any p (segments file) ≡ false
    → p (segment_at file (table file + 32 * index)) ≡ false
none_at p file index l none = none_from p file (table file) (headers file) index _ l refl none
