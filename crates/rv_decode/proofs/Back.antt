-- What holds of what each row gives holds of what a word means.
use Rattle.std.proofs.Common.{◌≡◌, ℕ, ◌+◌, ◌*◌, ◌/◌, ◌%◌, ◌^◌, ◌<◌, Bool, true, false, List, [], ◌∷◌, refl, arith, subst, cond}
use Rattle.std.specs.Prelude.{Option, Some}
use Rattle.std.specs.List.{find}
use Rattle.std.specs.Option.{option_map}
use Rattle.std.proofs.lemmas.Bool.Decides.{nat_tests}
use Rattle.rv_decode.specs.Table.{Row, table, matches, first_of_rows, meaning, field, signed_field, imm_i, imm_s, imm_b, imm_j}
use Rattle.std.proofs.lemmas.Bool.{eqb-true}
use Rattle.rv_decode.specs.Fits.{Fits, IsSigned, IsEven}
use Rattle.rv_decode.specs.declared.Instr.{Instr}

-- what holds of each row, one behind the other
abbrev pub EachRow : (Row → Type 0) → List Row → Type 0
EachRow P [] = Unit {0}
EachRow P (r ∷ rs) = P r × EachRow P rs

infixr 5 ◌▸◌
abbrev pub ◌▸◌ : {P Q : Type 0} → P → Q → P × Q
p ▸ q = (p, q)

one_row : (P : Instr → Type 0) (w : ℕ) (r : Row) (rest : Option Row) (i : Instr) (b : Bool) → (b ≡ true → P (r.instr w))
    → (option_map (λ r. r.instr w) rest ≡ Some i → P i) → option_map (λ r. r.instr w) (cond b (Some r) rest) ≡ Some i → P i
one_row P w r rest i true here there h = let e : r.instr w ≡ i = cc in subst P e (here refl)
one_row P w r rest i false here there h = there h

from_rows : (P : Instr → Type 0) (w : ℕ) (rows : List Row) → EachRow (λ r. matches w r ≡ true → P (r.instr w)) rows → (i : Instr)
    → first_of_rows rows w ≡ Some i → P i
from_rows P w [] all i h = let bad : ⊥ = cc in absurd bad
from_rows P w (r ∷ rows) all i h = one_row P w r (find (matches w) rows) i (matches w r) (all.0) (from_rows P w rows all.1 i) h

pub from_table : (P : Instr → Type 0) (w : ℕ) → EachRow (λ r. matches w r ≡ true → P (r.instr w)) table → (i : Instr) → meaning w ≡ Some i → P i
unfolding meaning
from_table P w all i h = from_rows P w table all i h

signed_11 : (n : ℕ) → n < 2 ^ 12 → IsSigned 11 (signed_field 12 n)
signed_11 n h = grind (arith, nat_tests)

signed_12 : (n : ℕ) → n < 2 ^ 13 → n % 2 ≡ 0 → IsSigned 12 (signed_field 13 n) × IsEven (signed_field 13 n)
signed_12 n h e = (grind (arith, nat_tests), grind (arith, nat_tests))

signed_20 : (n : ℕ) → n < 2 ^ 21 → n % 2 ≡ 0 → IsSigned 20 (signed_field 21 n) × IsEven (signed_field 21 n)
signed_20 n h e = (grind (arith, nat_tests), grind (arith, nat_tests))

fits_load : (w : ℕ) → (w / 2 ^ 7 % 32 < 32) × (w / 2 ^ 15 % 32 < 32) × IsSigned 11 (imm_i w)
fits_load w = (omega arith, omega arith, signed_11 (field 20 12 w) (omega arith))

fits_store : (w : ℕ) → (w / 2 ^ 15 % 32 < 32) × (w / 2 ^ 20 % 32 < 32) × IsSigned 11 (imm_s w)
fits_store w = (omega arith, omega arith, signed_11 (field 25 7 w * 2 ^ 5 + field 7 5 w) (omega arith))

fits_upper : (w : ℕ) → (w / 2 ^ 7 % 32 < 32) × (field 12 20 w * 2 ^ 12 % 2 ^ 12 ≡ 0) × (field 12 20 w * 2 ^ 12 < 2 ^ 32)
fits_upper w = (omega arith, omega arith, omega arith)

fits_jal : (w : ℕ) → (w / 2 ^ 7 % 32 < 32) × IsSigned 20 (imm_j w) × IsEven (imm_j w)
fits_jal w =
    let p : IsSigned 20 (imm_j w) × IsEven (imm_j w) = signed_20 (field 31 1 w * 2 ^ 20 + field 12 8 w * 2 ^ 12 + field 20 1 w * 2 ^ 11 + field 21 10 w * 2)
    (omega arith) (omega arith) in (omega arith, p.0, p.1)

fits_branch : (w : ℕ) → (w / 2 ^ 15 % 32 < 32) × (w / 2 ^ 20 % 32 < 32) × IsSigned 12 (imm_b w) × IsEven (imm_b w)
fits_branch w =
    let p : IsSigned 12 (imm_b w) × IsEven (imm_b w) = signed_12 (field 31 1 w * 2 ^ 12 + field 7 1 w * 2 ^ 11 + field 25 6 w * 2 ^ 5 + field 8 4 w * 2)
    (omega arith) (omega arith) in (omega arith, omega arith, p.0, p.1)

fits_reg : (w : ℕ) → (w / 2 ^ 7 % 32 < 32) × (w / 2 ^ 15 % 32 < 32) × (w / 2 ^ 20 % 32 < 32)
fits_reg w = (omega arith, omega arith, omega arith)

fits_csr : (w : ℕ) → (w / 2 ^ 7 % 32 < 32) × (w / 2 ^ 15 % 32 < 32) × (field 20 12 w < 2 ^ 12)
fits_csr w = (omega arith, omega arith, omega arith)

fits_reserved : (w : ℕ) → (w / 2 ^ 7 % 32 < 32) × (w / 2 ^ 15 % 32 < 32) × (field 25 2 w < 4)
fits_reserved w = (omega arith, omega arith, omega arith)

fits_amo : (w : ℕ) → (w / 2 ^ 7 % 32 < 32) × (w / 2 ^ 15 % 32 < 32) × (w / 2 ^ 20 % 32 < 32) × (field 25 2 w < 4)
fits_amo w = (omega arith, omega arith, omega arith, omega arith)

pub meaning_fits : (w : ℕ) (i : Instr) → w < 2 ^ 32 → meaning w ≡ Some i → Fits i
unfolding table
meaning_fits w i b h =
    from_table Fits w
    ((λ _. fits_upper w) ▸ (λ _. fits_upper w) ▸ (λ _. fits_jal w) ▸ (λ _. fits_load w) ▸ (λ _. fits_branch w) ▸ (λ _. fits_branch w)
    ▸ (λ _. fits_branch w) ▸ (λ _. fits_branch w) ▸ (λ _. fits_branch w) ▸ (λ _. fits_branch w) ▸ (λ _. fits_load w) ▸ (λ _. fits_load w)
    ▸ (λ _. fits_load w) ▸ (λ _. fits_load w) ▸ (λ _. fits_load w) ▸ (λ _. fits_store w) ▸ (λ _. fits_store w) ▸ (λ _. fits_store w)
    ▸ (λ _. fits_load w) ▸ (λ _. fits_load w) ▸ (λ _. fits_load w) ▸ (λ _. fits_load w) ▸ (λ _. fits_load w) ▸ (λ _. fits_load w) ▸ (λ _. fits_reg w)
    ▸ (λ _. fits_reg w) ▸ (λ _. fits_reg w) ▸ (λ _. fits_reg w) ▸ (λ _. fits_reg w) ▸ (λ _. fits_reg w) ▸ (λ _. fits_reg w) ▸ (λ _. fits_reg w)
    ▸ (λ _. fits_reg w) ▸ (λ _. fits_reg w) ▸ (λ _. fits_reg w) ▸ (λ _. fits_reg w) ▸ (λ _. fits_reg w) ▸ (λ _. fits_reg w) ▸ (λ _. fits_reg w)
    ▸ (λ _. fits_reg w) ▸ (λ _. fits_reg w) ▸ (λ _. fits_reg w) ▸ (λ _. fits_reg w) ▸ (λ _. fits_reg w) ▸ (λ _. fits_reg w)
    ▸ (λ m. (eqb-true _ _ m, b)) ▸ (λ m. (eqb-true _ _ m, b)) ▸ (λ _. tt) ▸ (λ _. tt) ▸ (λ _. tt) ▸ (λ _. tt) ▸ (λ _. fits_csr w) ▸ (λ _. fits_csr w)
    ▸ (λ _. fits_csr w) ▸ (λ _. fits_csr w) ▸ (λ _. fits_csr w) ▸ (λ _. fits_csr w) ▸ (λ _. fits_reserved w) ▸ (λ _. fits_amo w) ▸ (λ _. fits_amo w)
    ▸ (λ _. fits_amo w) ▸ (λ _. fits_amo w) ▸ (λ _. fits_amo w) ▸ (λ _. fits_amo w) ▸ (λ _. fits_amo w) ▸ (λ _. fits_amo w) ▸ (λ _. fits_amo w)
    ▸ (λ _. fits_amo w) ▸ tt)
    i h
