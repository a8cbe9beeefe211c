-- Digits as they are printed.
use Rattle.std.proofs.Common.{◌≡◌, ℕ, ◌/◌, ◌%◌, ◌^◌, ◌<◌, [], ◌∷◌, ◌++◌, arith, false}
use Rattle.std.specs.Fmt.{digits}
use Rattle.std.proofs.lemmas.Fmt.{hex_one_digit}
use Rattle.rv_asm.specs.Text.{hex, hex_3, hex_4}

pub three_digits : (n : ℕ) → n < 2 ^ 12 → digits 16 false (n / 2 ^ 8) ++ (digits 16 false (n / 2 ^ 4 % 16) ++ digits 16 false (n % 16)) ≡ hex_3 n
three_digits n h =
    let a : digits 16 false (n / 2 ^ 8) ≡ hex (n / 2 ^ 8) ∷ [] = hex_one_digit false (n / 2 ^ 8) (omega arith) in
    let b : digits 16 false (n / 2 ^ 4 % 16) ≡ hex (n / 2 ^ 4 % 16) ∷ [] = hex_one_digit false (n / 2 ^ 4 % 16) (omega arith) in
    let c : digits 16 false (n % 16) ≡ hex (n % 16) ∷ [] = hex_one_digit false (n % 16) (omega arith) in
    rw (a, b, c)

pub four_digits : (n : ℕ) → n < 2 ^ 16 → digits 16 false (n / 2 ^ 12) ++
    (digits 16 false (n / 2 ^ 8 % 16) ++ (digits 16 false (n / 2 ^ 4 % 16) ++ digits 16 false (n % 16))) ≡ hex_4 n
four_digits n h =
    let a : digits 16 false (n / 2 ^ 12) ≡ hex (n / 2 ^ 12) ∷ [] = hex_one_digit false (n / 2 ^ 12) (omega arith) in
    let b : digits 16 false (n / 2 ^ 8 % 16) ≡ hex (n / 2 ^ 8 % 16) ∷ [] = hex_one_digit false (n / 2 ^ 8 % 16) (omega arith) in
    let c : digits 16 false (n / 2 ^ 4 % 16) ≡ hex (n / 2 ^ 4 % 16) ∷ [] = hex_one_digit false (n / 2 ^ 4 % 16) (omega arith) in
    let d : digits 16 false (n % 16) ≡ hex (n % 16) ∷ [] = hex_one_digit false (n % 16) (omega arith) in
    rw (a, b, c, d)

pub ruleset hex_digits = (three_digits, four_digits)
