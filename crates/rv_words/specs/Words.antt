-- Words are whole numbers below 2 ^ 32, and what the instructions compute of them. The meanings are those
-- of the RISC-V Unprivileged manual: for sums, shifts and comparisons its chapter "RV32I Base Integer
-- Instruction Set", section "Integer Computational Instructions"; for products and quotients its chapter on
-- the M extension, sections "Multiplication Operations" and "Division Operations".
use Rattle.std.specs.Prelude.{Bool, ℕ, ℤ, pos, negsuc, ◌+◌, ◌-◌, ◌*◌, ◌/◌, ◌%◌, ◌^◌, ◌==◌, ◌-ℤ◌, ◌*ℤ◌, if◌then◌else◌, nat_lt, int_lt, int_div, int_rem}

-- the signed reading of a word
abbrev pub signed : ℕ → ℤ
signed a = if nat_lt a (2 ^ 31) then pos a else negsuc (2 ^ 32 - 1 - a)

-- the word that a whole number has modulo 2 ^ 32
abbrev pub word_of : ℤ → ℕ
word_of (pos n) = n % 2 ^ 32
word_of (negsuc n) = 2 ^ 32 - 1 - n % 2 ^ 32

-- the quotient by a power of two, rounded down
abbrev pub quotient_down : ℤ → ℕ → ℤ
quotient_down (pos n) d = pos (n / d)
quotient_down (negsuc n) d = negsuc (n / d)

-- Sums, differences and products are taken modulo 2 ^ 32.

abbrev pub word_add : ℕ → ℕ → ℕ
word_add a b = (a + b) % 2 ^ 32

abbrev pub word_sub : ℕ → ℕ → ℕ
word_sub a b = word_of (pos a -ℤ pos b)

abbrev pub word_mul : ℕ → ℕ → ℕ
word_mul a b = a * b % 2 ^ 32

-- The high products are the quotients by 2 ^ 32, rounded down, of the exact products of two unsigned words,
-- of two signed ones, and of a signed and an unsigned one.

abbrev pub word_mulhu : ℕ → ℕ → ℕ
word_mulhu a b = a * b / 2 ^ 32

abbrev pub word_mulh : ℕ → ℕ → ℕ
word_mulh a b = word_of (quotient_down (signed a *ℤ signed b) (2 ^ 32))

abbrev pub word_mulhsu : ℕ → ℕ → ℕ
word_mulhsu a b = word_of (quotient_down (signed a *ℤ pos b) (2 ^ 32))

-- Quotients are rounded toward zero, and a remainder has the dividend's sign. By zero the quotient has all
-- bits set and the remainder is the dividend. -2 ^ 31 by -1 gives 2 ^ 31, which is the word of -2 ^ 31, and
-- the remainder 0.

abbrev pub word_div : ℕ → ℕ → ℕ
word_div a b = if b == 0 then 2 ^ 32 - 1 else word_of (int_div (signed a) (signed b))

abbrev pub word_rem : ℕ → ℕ → ℕ
word_rem a b = if b == 0 then a else word_of (int_rem (signed a) (signed b))

abbrev pub word_divu : ℕ → ℕ → ℕ
word_divu a b = if b == 0 then 2 ^ 32 - 1 else a / b

abbrev pub word_remu : ℕ → ℕ → ℕ
word_remu a b = if b == 0 then a else a % b

-- Shifts are by the second operand's low five bits. A right shift is logical, or arithmetic, which copies
-- the sign.

abbrev pub word_sll : ℕ → ℕ → ℕ
word_sll a b = a * 2 ^ (b % 32) % 2 ^ 32

abbrev pub word_srl : ℕ → ℕ → ℕ
word_srl a b = a / 2 ^ (b % 32)

abbrev pub word_sra : ℕ → ℕ → ℕ
word_sra a b = word_of (quotient_down (signed a) (2 ^ (b % 32)))

-- A comparison, of signed or of unsigned words, gives 1 or 0.

abbrev pub word_slt : ℕ → ℕ → ℕ
word_slt a b = if int_lt (signed a) (signed b) then 1 else 0

abbrev pub word_sltu : ℕ → ℕ → ℕ
word_sltu a b = if nat_lt a b then 1 else 0

-- bit `k` of a number
abbrev pub has_bit : ℕ → ℕ → Bool
has_bit n k = n / 2 ^ k % 2 == 1

-- the number whose one bit is `k`, where it is set
abbrev pub bit : Bool → ℕ → ℕ
bit set k = if set then 2 ^ k else 0

-- the halves of a number of 64 bits, and the number with one half replaced
abbrev pub low_half : ℕ → ℕ
low_half n = n % 2 ^ 32

abbrev pub high_half : ℕ → ℕ
high_half n = n / 2 ^ 32

abbrev pub with_low_half : ℕ → ℕ → ℕ
with_low_half n v = high_half n * 2 ^ 32 + v

abbrev pub with_high_half : ℕ → ℕ → ℕ
with_high_half n v = v * 2 ^ 32 + low_half n
