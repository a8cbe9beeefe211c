-- The text of an instruction: its name, a blank and its operands. It is meant of instructions that fit: CSR numbers
-- have 12 bits and orders 2.
use Rattle.std.specs.Prelude.{ℕ, ℤ, pos, ◌/◌, ◌%◌, ◌^◌, List, [], ◌∷◌, ◌++◌, codes, false}
use Rattle.std.specs.Fmt.{decimal, signed_decimal, digits, digit_glyph}
use Rattle.rv_decode.specs.declared.Instr.{Instr}
use Rattle.rv_decode.specs.declared.Instr.TheVariants.{Upper, Jal, Jalr, Branch, Load, Store, Imm, Shift, Reg, Fence, FenceI, Ecall, Ebreak, Mret, Wfi, Csr}
use Rattle.rv_decode.specs.declared.Instr.TheVariants.{LoadReserved, StoreConditional, Amo}
use Rattle.rv_decode.specs.declared.CsrOp.{CsrOp}
use Rattle.rv_decode.specs.declared.CsrOp.TheVariants as csr_op
use Rattle.rv_asm.specs.Names.{upper_name, branch_name, load_name, store_name, imm_name, shift_name, reg_name, csr_name, amo_name, order_suffix}

abbrev pub hex : ℕ → ℕ
hex d = digit_glyph false d

abbrev pub hex_3 : ℕ → List ℕ
hex_3 n = hex (n / 2 ^ 8) ∷ hex (n / 2 ^ 4 % 16) ∷ hex (n % 16) ∷ []

abbrev pub hex_4 : ℕ → List ℕ
hex_4 n = hex (n / 2 ^ 12) ∷ hex (n / 2 ^ 8 % 16) ∷ hex (n / 2 ^ 4 % 16) ∷ hex (n % 16) ∷ []

abbrev pub hex_8 : ℕ → List ℕ
hex_8 n = hex_4 (n / 2 ^ 16) ++ hex_4 (n % 2 ^ 16)

-- `name xA, 0xN`
abbrev pub with_hex : List ℕ → ℕ → ℕ → List ℕ
with_hex name a n = name ++ (codes " x" ++ (decimal a ++ (codes ", 0x" ++ digits 16 false n)))

-- `name xA, Z`
abbrev pub with_number : List ℕ → ℕ → ℤ → List ℕ
with_number name a z = name ++ (codes " x" ++ (decimal a ++ (codes ", " ++ signed_decimal z)))

-- `name xA, xB, Z`
abbrev pub with_two_and_number : List ℕ → ℕ → ℕ → ℤ → List ℕ
with_two_and_number name a b z = name ++ (codes " x" ++ (decimal a ++ (codes ", x" ++ (decimal b ++ (codes ", " ++ signed_decimal z)))))

-- `name xA, xB, xC`
abbrev pub with_three : List ℕ → ℕ → ℕ → ℕ → List ℕ
with_three name a b c = name ++ (codes " x" ++ (decimal a ++ (codes ", x" ++ (decimal b ++ (codes ", x" ++ decimal c)))))

-- `name xA, Z(xB)`
abbrev pub with_place : List ℕ → ℕ → ℤ → ℕ → List ℕ
with_place name a z b = name ++ (codes " x" ++ (decimal a ++ (codes ", " ++ (signed_decimal z ++ (codes "(x" ++ (decimal b ++ codes ")"))))))

-- `name xA, 0xNNN, xB` and `name xA, 0xNNN, B`
abbrev pub with_csr : List ℕ → ℕ → ℕ → List ℕ → ℕ → List ℕ
with_csr name a n before b = name ++ (codes " x" ++ (decimal a ++ (codes ", 0x" ++ (hex_3 n ++ (before ++ decimal b)))))

-- `name.order xA, (xB)`
abbrev pub with_address : List ℕ → ℕ → ℕ → ℕ → List ℕ
with_address name order a b = name ++ (order_suffix order ++ (codes " x" ++ (decimal a ++ (codes ", (x" ++ (decimal b ++ codes ")")))))

-- `name.order xA, xB, (xC)`
abbrev pub with_two_and_address : List ℕ → ℕ → ℕ → ℕ → ℕ → List ℕ
with_two_and_address name order a b c =
    name ++ (order_suffix order ++ (codes " x" ++ (decimal a ++ (codes ", x" ++ (decimal b ++ (codes ", (x" ++ (decimal c ++ codes ")")))))))

-- `name 0xNNNNNNNN`
abbrev pub with_word : List ℕ → ℕ → List ℕ
with_word name n = name ++ (codes " 0x" ++ hex_8 n)

-- what stands before the last operand of a CSR instruction: a register or a number
abbrev pub csr_before : CsrOp → List ℕ
csr_before csr_op.Csrrw = codes ", x"
csr_before csr_op.Csrrs = codes ", x"
csr_before csr_op.Csrrc = codes ", x"
csr_before csr_op.Csrrwi = codes ", "
csr_before csr_op.Csrrsi = codes ", "
csr_before csr_op.Csrrci = codes ", "

abbrev pub text : Instr → List ℕ
text (Upper op rd imm) = with_hex (upper_name op) rd (imm / 2 ^ 12)
text (Jal rd offset) = with_number (codes "jal") rd offset
text (Jalr rd rs1 offset) = with_place (codes "jalr") rd offset rs1
text (Branch op rs1 rs2 offset) = with_two_and_number (branch_name op) rs1 rs2 offset
text (Load op rd rs1 offset) = with_place (load_name op) rd offset rs1
text (Store op rs1 rs2 offset) = with_place (store_name op) rs2 offset rs1
text (Imm op rd rs1 imm) = with_two_and_number (imm_name op) rd rs1 imm
text (Shift op rd rs1 amount) = with_two_and_number (shift_name op) rd rs1 (pos amount)
text (Reg op rd rs1 rs2) = with_three (reg_name op) rd rs1 rs2
text (Fence word) = with_word (codes "fence") word
text (FenceI word) = with_word (codes "fence.i") word
text Ecall = codes "ecall"
text Ebreak = codes "ebreak"
text Mret = codes "mret"
text Wfi = codes "wfi"
text (Csr op rd rs1 number) = with_csr (csr_name op) rd number (csr_before op) rs1
text (LoadReserved rd rs1 order) = with_address (codes "lr.w") order rd rs1
text (StoreConditional rd rs1 rs2 order) = with_two_and_address (codes "sc.w") order rd rs2 rs1
text (Amo op rd rs1 rs2 order) = with_two_and_address (amo_name op) order rd rs2 rs1
