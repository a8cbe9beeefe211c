-- What a pass over the pieces of a line keeps.
use Rattle.std.proofs.Common.{◌≡◌, ℕ, ◌+◌, ◌*◌, ◌/◌, ◌%◌, ◌^◌, ◌<◌, Bool, true, false, List, [], ◌∷◌, ◌++◌, refl, ap, ◌∙◌, arith, suc}
use Rattle.std.specs.Prelude.{ℤ, pos, negsuc, nat_lt, ◌==◌, fold}
use Rattle.std.proofs.lemmas.Bool.Decides.{nat_tests}
use Rattle.std.proofs.Math.IntN.{+ℤ_idl}
use Rattle.std.proofs.lemmas.List.Sums.{fold-append}
use Rattle.std.specs.Fmt.{decimal, signed_decimal, digits}
use Rattle.std.specs.Char.{digit_value}
use Rattle.std.specs.Str.Parse.{AllDigits, digits_value, digits_value_after}
use Rattle.std.proofs.lemmas.Fmt.{decimal_is_IsNumeral, digits_is_IsNumeral}
use Rattle.rv_asm.specs.Text.{hex, hex_3, hex_8}
use Rattle.rv_asm.specs.declared.scan.Phase.TheVariants.{Operands}
use Rattle.rv_asm.specs.declared.scan.Scan.{Scan}
use Rattle.rv_asm.specs.Scan.{step, ten, sixteen, signed_of}

abbrev pub ops : ℕ → ℕ → ℕ → ℕ → ℕ → ℕ → Bool → ℕ → ℕ → Bool → Scan
ops k x t n p q pm c h m =
    record {
      phase = Operands;
      key = k;
      suffix = x;
      third = t;
      second = n;
      previous = p;
      previous_hex = q;
      previous_minus = pm;
      current = c;
      current_hex = h;
      current_minus = m;
    }

pub not_newline : (b : ℕ) → digit_value b < 16 → (b == 10) ≡ false
not_newline b d = grind (arith, nat_tests)

is_digit : (b : ℕ) → digit_value b < 16 → nat_lt (digit_value b) 16 ≡ true
is_digit b d = grind (arith, nat_tests)

one : (b : ℕ) (k x t n p q : ℕ) (pm : Bool) (c h : ℕ) (m : Bool) → digit_value b < 16
    → step (ops k x t n p q pm c h m) b ≡ ops k x t n p q pm (ten c b) (sixteen h b) m
one b k x t n p q pm c h m d =
    let f : nat_lt (digit_value b) 16 ≡ true = is_digit b d in
    rw f

-- digits move nothing but the number that is being read
pub run : (ds : List ℕ) (k x t n p q : ℕ) (pm : Bool) (c h : ℕ) (m : Bool) → AllDigits 16 ds
    → fold step (ops k x t n p q pm c h m) ds ≡ ops k x t n p q pm (fold ten c ds) (fold sixteen h ds) m
run [] k x t n p q pm c h m d = refl
run (b ∷ ds) k x t n p q pm c h m d = ap (λ s. fold step s ds) (one b k x t n p q pm c h m d.0) ∙ run ds k x t n p q pm (ten c b) (sixteen h b) m d.1

pub run_on : (ds rest : List ℕ) (k x t n p q : ℕ) (pm : Bool) (c h : ℕ) (m : Bool) → AllDigits 16 ds
    → fold step (ops k x t n p q pm c h m) (ds ++ rest) ≡ fold step (ops k x t n p q pm (fold ten c ds) (fold sixteen h ds) m) rest
run_on ds rest k x t n p q pm c h m d = fold-append step (ops k x t n p q pm c h m) ds rest ∙ ap (λ s. fold step s rest) (run ds k x t n p q pm c h m d)

ten_step : (c d : ℕ) → (c % 2 ^ 32 * 10 + d) % 2 ^ 32 ≡ (c * 10 + d) % 2 ^ 32
ten_step c d = omega arith

sixteen_step : (c d : ℕ) → (c % 2 ^ 32 * 16 + d) % 2 ^ 32 ≡ (c * 16 + d) % 2 ^ 32
sixteen_step c d = omega arith

ten_value : (ds : List ℕ) (c : ℕ) → fold ten (c % 2 ^ 32) ds ≡ digits_value_after 10 c ds % 2 ^ 32
ten_value [] c = refl
ten_value (b ∷ ds) c = ap (λ x. fold ten x ds) (ten_step c (digit_value b)) ∙ ten_value ds (c * 10 + digit_value b)

sixteen_value : (ds : List ℕ) (c : ℕ) → fold sixteen (c % 2 ^ 32) ds ≡ digits_value_after 16 c ds % 2 ^ 32
sixteen_value [] c = refl
sixteen_value (b ∷ ds) c = ap (λ x. fold sixteen x ds) (sixteen_step c (digit_value b)) ∙ sixteen_value ds (c * 16 + digit_value b)

small : (n : ℕ) → n < 2 ^ 32 → n % 2 ^ 32 ≡ n
small n h = omega arith

ten_decimal : (n : ℕ) → n < 2 ^ 32 → fold ten 0 (decimal n) ≡ n
ten_decimal n h =
    let v : digits_value 10 (decimal n) ≡ n = (decimal_is_IsNumeral n (omega arith)).1 in
    ten_value (decimal n) 0 ∙ ap (λ x. x % 2 ^ 32) v ∙ small n h

sixteen_digits : (n : ℕ) → n < 2 ^ 32 → fold sixteen 0 (digits 16 false n) ≡ n
sixteen_digits n h =
    let b : n < 16 ^ 64 = omega arith in
    let v : digits_value 16 (digits 16 false n) ≡ n = (digits_is_IsNumeral 16 false (omega arith) (omega arith) n b).1 in
    sixteen_value (digits 16 false n) 0 ∙ ap (λ x. x % 2 ^ 32) v ∙ small n h

wider : (ds : List ℕ) → AllDigits 10 ds → AllDigits 16 ds
wider [] d = d
wider (b ∷ ds) d = (omega (arith, d.0), wider ds d.1)

pub decimal_digits : (n : ℕ) → n < 2 ^ 32 → AllDigits 16 (decimal n)
decimal_digits n h = wider (decimal n) ((decimal_is_IsNumeral n (omega arith)).0.1)

pub hex_digits : (n : ℕ) → n < 2 ^ 32 → AllDigits 16 (digits 16 false n)
hex_digits n h =
    let b : n < 16 ^ 64 = omega arith in
    (digits_is_IsNumeral 16 false (omega arith) (omega arith) n b).0.1

-- what the other reading of a number leaves, which nobody looks at
pub aside_hex : ℕ → ℕ
aside_hex n = fold sixteen 0 (decimal n)

pub aside_ten : List ℕ → ℕ
aside_ten ds = fold ten 0 ds

pub eat : (a : ℕ) (rest : List ℕ) (k x t n p q : ℕ) (pm m : Bool) → a < 2 ^ 32
    → fold step (ops k x t n p q pm 0 0 m) (decimal a ++ rest) ≡ fold step (ops k x t n p q pm a (aside_hex a) m) rest
unfolding aside_hex
eat a rest k x t n p q pm m h =
    run_on (decimal a) rest k x t n p q pm 0 0 m (decimal_digits a h)
    ∙ ap (λ v. fold step (ops k x t n p q pm v (fold sixteen 0 (decimal a)) m) rest) (ten_decimal a h)

pub eat_last : (a : ℕ) (k x t n p q : ℕ) (pm m : Bool) → a < 2 ^ 32 → fold step (ops k x t n p q pm 0 0 m) (decimal a) ≡ ops k x t n p q pm a (aside_hex a) m
unfolding aside_hex
eat_last a k x t n p q pm m h =
    run (decimal a) k x t n p q pm 0 0 m (decimal_digits a h) ∙ ap (λ v. ops k x t n p q pm v (fold sixteen 0 (decimal a)) m) (ten_decimal a h)

pub eat_hex : (a : ℕ) (k x t n p q : ℕ) (pm m : Bool) → a < 2 ^ 32
    → fold step (ops k x t n p q pm 0 0 m) (digits 16 false a) ≡ ops k x t n p q pm (aside_ten (digits 16 false a)) a m
unfolding aside_ten
eat_hex a k x t n p q pm m h =
    run (digits 16 false a) k x t n p q pm 0 0 m (hex_digits a h) ∙ ap (λ v. ops k x t n p q pm (fold ten 0 (digits 16 false a)) v m) (sixteen_digits a h)

abbrev pub size_of : ℤ → ℕ
size_of (pos a) = a
size_of (negsuc a) = suc a

abbrev pub minus_of : ℤ → Bool
minus_of (pos a) = false
minus_of (negsuc a) = true

pub eat_signed : (z : ℤ) (rest : List ℕ) (k x t n p q : ℕ) (pm : Bool) → size_of z < 2 ^ 32
    → fold step (ops k x t n p q pm 0 0 false) (signed_decimal z ++ rest) ≡ fold step (ops k x t n p q pm (size_of z) (aside_hex (size_of z)) (minus_of z)) rest
eat_signed (pos a) rest k x t n p q pm h = eat a rest k x t n p q pm false h
eat_signed (negsuc a) rest k x t n p q pm h = eat (suc a) rest k x t n p q pm true h

pub eat_signed_last : (z : ℤ) (k x t n p q : ℕ) (pm : Bool) → size_of z < 2 ^ 32
    → fold step (ops k x t n p q pm 0 0 false) (signed_decimal z) ≡ ops k x t n p q pm (size_of z) (aside_hex (size_of z)) (minus_of z)
eat_signed_last (pos a) k x t n p q pm h = eat_last a k x t n p q pm false h
eat_signed_last (negsuc a) k x t n p q pm h = eat_last (suc a) k x t n p q pm true h

pub signed_again : (z : ℤ) → size_of z < 2 ^ 21 → signed_of (minus_of z) (size_of z) ≡ z
signed_again (pos a) h = grind (arith, nat_tests)
signed_again (negsuc a) h =
    let e : nat_lt (suc a) (2 ^ 21) ≡ true = grind (arith, nat_tests) in
    rw e (+ℤ_idl (negsuc a))

-- hexadecimal digits of a fixed number

hex_value : (d : ℕ) → d < 16 → digit_value (hex d) ≡ d
hex_value d h = grind (arith, nat_tests)

next : (c d n : ℕ) (rest : List ℕ) → d < 16 → c * 16 + d ≡ n → n < 2 ^ 32 → fold sixteen c (hex d ∷ rest) ≡ fold sixteen n rest
next c d n rest h e b =
    let v : (c * 16 + digit_value (hex d)) % 2 ^ 32 ≡ n = ap (λ y. (c * 16 + y) % 2 ^ 32) (hex_value d h) ∙ (omega arith) in
    ap (λ y. fold sixteen y rest) v

is_hex : (d : ℕ) → d < 16 → digit_value (hex d) < 16
is_hex d h = omega (arith, hex_value d h)

hex_3_value : (n : ℕ) → n < 2 ^ 12 → fold sixteen 0 (hex_3 n) ≡ n
hex_3_value n b =
    next (0) (n / 2 ^ 8) (n / 2 ^ 8) (hex (n / 2 ^ 4 % 16) ∷ hex (n % 16) ∷ []) (omega arith) (omega arith) (omega arith)
    ∙ next (n / 2 ^ 8) (n / 2 ^ 4 % 16) (n / 2 ^ 4) (hex (n % 16) ∷ []) (omega arith) (omega arith) (omega arith)
    ∙ next (n / 2 ^ 4) (n % 16) (n) ([]) (omega arith) (omega arith) (omega arith)

pub hex_3_digits : (n : ℕ) → n < 2 ^ 12 → AllDigits 16 (hex_3 n)
hex_3_digits n b = (is_hex (n / 2 ^ 8) (omega arith), (is_hex (n / 2 ^ 4 % 16) (omega arith), (is_hex (n % 16) (omega arith), tt)))

hex_8_value : (n : ℕ) → n < 2 ^ 32 → fold sixteen 0 (hex_8 n) ≡ n
hex_8_value n b =
    next (0) (n / 2 ^ 16 / 2 ^ 12) (n / 2 ^ 28)
    (hex (n / 2 ^ 16 / 2 ^ 8 % 16) ∷ hex (n / 2 ^ 16 / 2 ^ 4 % 16) ∷ hex (n / 2 ^ 16 % 16) ∷ hex (n % 2 ^ 16 / 2 ^ 12) ∷ hex (n % 2 ^ 16 / 2 ^ 8 % 16) ∷ hex
    (n % 2 ^ 16 / 2 ^ 4 % 16) ∷ hex (n % 2 ^ 16 % 16) ∷ []) (omega arith) (omega arith) (omega arith)
    ∙ next (n / 2 ^ 28) (n / 2 ^ 16 / 2 ^ 8 % 16) (n / 2 ^ 24)
    (hex (n / 2 ^ 16 / 2 ^ 4 % 16) ∷ hex (n / 2 ^ 16 % 16) ∷ hex (n % 2 ^ 16 / 2 ^ 12) ∷ hex (n % 2 ^ 16 / 2 ^ 8 % 16) ∷ hex (n % 2 ^ 16 / 2 ^ 4 % 16) ∷ hex
    (n % 2 ^ 16 % 16) ∷ []) (omega arith) (omega arith) (omega arith)
    ∙ next (n / 2 ^ 24) (n / 2 ^ 16 / 2 ^ 4 % 16) (n / 2 ^ 20)
    (hex (n / 2 ^ 16 % 16) ∷ hex (n % 2 ^ 16 / 2 ^ 12) ∷ hex (n % 2 ^ 16 / 2 ^ 8 % 16) ∷ hex (n % 2 ^ 16 / 2 ^ 4 % 16) ∷ hex (n % 2 ^ 16 % 16) ∷ [])
    (omega arith) (omega arith) (omega arith)
    ∙ next (n / 2 ^ 20) (n / 2 ^ 16 % 16) (n / 2 ^ 16)
    (hex (n % 2 ^ 16 / 2 ^ 12) ∷ hex (n % 2 ^ 16 / 2 ^ 8 % 16) ∷ hex (n % 2 ^ 16 / 2 ^ 4 % 16) ∷ hex (n % 2 ^ 16 % 16) ∷ []) (omega arith) (omega arith)
    (omega arith) ∙ next (n / 2 ^ 16) (n % 2 ^ 16 / 2 ^ 12) (n / 2 ^ 12)
    (hex (n % 2 ^ 16 / 2 ^ 8 % 16) ∷ hex (n % 2 ^ 16 / 2 ^ 4 % 16) ∷ hex (n % 2 ^ 16 % 16) ∷ []) (omega arith) (omega arith) (omega arith)
    ∙ next (n / 2 ^ 12) (n % 2 ^ 16 / 2 ^ 8 % 16) (n / 2 ^ 8) (hex (n % 2 ^ 16 / 2 ^ 4 % 16) ∷ hex (n % 2 ^ 16 % 16) ∷ []) (omega arith) (omega arith)
    (omega arith) ∙ next (n / 2 ^ 8) (n % 2 ^ 16 / 2 ^ 4 % 16) (n / 2 ^ 4) (hex (n % 2 ^ 16 % 16) ∷ []) (omega arith) (omega arith) (omega arith)
    ∙ next (n / 2 ^ 4) (n % 2 ^ 16 % 16) (n) ([]) (omega arith) (omega arith) (omega arith)

pub hex_8_digits : (n : ℕ) → n < 2 ^ 32 → AllDigits 16 (hex_8 n)
hex_8_digits n b = (
  is_hex (n / 2 ^ 16 / 2 ^ 12) (omega arith),
  (
    is_hex (n / 2 ^ 16 / 2 ^ 8 % 16) (omega arith),
    (
      is_hex (n / 2 ^ 16 / 2 ^ 4 % 16) (omega arith),
      (
        is_hex (n / 2 ^ 16 % 16) (omega arith),
        (
          is_hex (n % 2 ^ 16 / 2 ^ 12) (omega arith),
          (is_hex (n % 2 ^ 16 / 2 ^ 8 % 16) (omega arith), (is_hex (n % 2 ^ 16 / 2 ^ 4 % 16) (omega arith), (is_hex (n % 2 ^ 16 % 16) (omega arith), tt))),
        ),
      ),
    ),
  ),
)

pub eat_hex_3 : (a : ℕ) (rest : List ℕ) (k x t n p q : ℕ) (pm m : Bool) → a < 2 ^ 12
    → fold step (ops k x t n p q pm 0 0 m) (hex_3 a ++ rest) ≡ fold step (ops k x t n p q pm (aside_ten (hex_3 a)) a m) rest
unfolding aside_ten
eat_hex_3 a rest k x t n p q pm m h =
    run_on (hex_3 a) rest k x t n p q pm 0 0 m (hex_3_digits a h) ∙ ap (λ v. fold step (ops k x t n p q pm (fold ten 0 (hex_3 a)) v m) rest) (hex_3_value a h)

pub eat_hex_8 : (a : ℕ) (k x t n p q : ℕ) (pm m : Bool) → a < 2 ^ 32
    → fold step (ops k x t n p q pm 0 0 m) (hex_8 a) ≡ ops k x t n p q pm (aside_ten (hex_8 a)) a m
unfolding aside_ten
eat_hex_8 a k x t n p q pm m h =
    run (hex_8 a) k x t n p q pm 0 0 m (hex_8_digits a h) ∙ ap (λ v. ops k x t n p q pm (fold ten 0 (hex_8 a)) v m) (hex_8_value a h)
