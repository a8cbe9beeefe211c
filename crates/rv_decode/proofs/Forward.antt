-- The word of an instruction whose fields are in range means that instruction.
use Rattle.std.proofs.Common.{◌≡◌, ℕ, ◌+◌, ◌*◌, ◌/◌, ◌%◌, ◌^◌, ◌<◌, refl, ap, sym, ◌∙◌, arith, subst, lit<}
use Rattle.std.specs.Prelude.{bit_and, Some, ℤ, pos, negsuc}
use Rattle.std.proofs.lemmas.Nat.{and_mask}
use Rattle.std.proofs.lemmas.Bool.Decides.{nat_tests}
use Rattle.rv_decode.specs.Table.{table, meaning, rd_of, rs1_of, rs2_of, order_of, field, signed_field, imm_i, imm_s, imm_b, imm_j, load, reg, branch, store}
use Rattle.rv_decode.specs.Table.{imm, shift, csr, amo, upper, jal, jalr, load_reserved, store_conditional}
use Rattle.rv_decode.specs.Fits.{Fits, IsSigned, IsEven}
use Rattle.rv_decode.proofs.Rows.{settle}
use Rattle.rv_decode.proofs.Groups.{jal_at, opcode_and_funct3, with_funct7, with_funct5, with_rs2, ecall_at, ebreak_at, mret_at, wfi_at}
use Rattle.rv_decode.proofs.Encoding.{meaning_encoded}
use Rattle.rv_decode.specs.Encoding.{low_bits, upper_bits, branch_bits, load_bits, store_bits, imm_bits, shift_bits, reg_bits, csr_bits, amo_bits, with_imm_s}
use Rattle.rv_decode.specs.Encoding.{with_imm_b, with_imm_j, encoded}
use Rattle.rv_decode.specs.declared.Instr.{Instr}
use Rattle.rv_decode.specs.declared.Instr.TheVariants.{Upper, Jal, Jalr, Branch, Load, Store, Imm, Shift, Reg, Fence, FenceI, Ecall, Ebreak, Mret, Wfi, Csr}
use Rattle.rv_decode.specs.declared.Instr.TheVariants.{LoadReserved, StoreConditional, Amo}
use Rattle.rv_decode.specs.declared.UpperOp.{UpperOp}
use Rattle.rv_decode.specs.declared.UpperOp.TheVariants as upper_op
use Rattle.rv_decode.specs.declared.BranchOp.{BranchOp}
use Rattle.rv_decode.specs.declared.BranchOp.TheVariants as branch_op
use Rattle.rv_decode.specs.declared.LoadOp.{LoadOp}
use Rattle.rv_decode.specs.declared.LoadOp.TheVariants as load_op
use Rattle.rv_decode.specs.declared.StoreOp.{StoreOp}
use Rattle.rv_decode.specs.declared.StoreOp.TheVariants as store_op
use Rattle.rv_decode.specs.declared.ImmOp.{ImmOp}
use Rattle.rv_decode.specs.declared.ImmOp.TheVariants as imm_op
use Rattle.rv_decode.specs.declared.ShiftOp.{ShiftOp}
use Rattle.rv_decode.specs.declared.ShiftOp.TheVariants as shift_op
use Rattle.rv_decode.specs.declared.RegOp.{RegOp}
use Rattle.rv_decode.specs.declared.RegOp.TheVariants as reg_op
use Rattle.rv_decode.specs.declared.CsrOp.{CsrOp}
use Rattle.rv_decode.specs.declared.CsrOp.TheVariants as csr_op
use Rattle.rv_decode.specs.declared.AmoOp.{AmoOp}
use Rattle.rv_decode.specs.declared.AmoOp.TheVariants as amo_op

number_of_12 : (z : ℤ) → IsSigned 11 z → signed_field 12 (low_bits 12 z) ≡ z
number_of_12 (pos n) h = grind (arith, nat_tests)
number_of_12 (negsuc n) h = grind (arith, nat_tests)

number_of_13 : (z : ℤ) → IsSigned 12 z → signed_field 13 (low_bits 13 z) ≡ z
number_of_13 (pos n) h = grind (arith, nat_tests)
number_of_13 (negsuc n) h = grind (arith, nat_tests)

number_of_21 : (z : ℤ) → IsSigned 20 z → signed_field 21 (low_bits 21 z) ≡ z
number_of_21 (pos n) h = grind (arith, nat_tests)
number_of_21 (negsuc n) h = grind (arith, nat_tests)

low_bits_12 : (z : ℤ) → low_bits 12 z < 2 ^ 12
low_bits_12 (pos n) = omega arith
low_bits_12 (negsuc n) = omega arith

low_bits_13 : (z : ℤ) → IsEven z → (low_bits 13 z < 2 ^ 13) × (low_bits 13 z % 2 ≡ 0)
low_bits_13 (pos n) e = (omega arith, omega arith)
low_bits_13 (negsuc n) e = (omega arith, omega arith)

low_bits_21 : (z : ℤ) → IsEven z → (low_bits 21 z < 2 ^ 21) × (low_bits 21 z % 2 ≡ 0)
low_bits_21 (pos n) e = (omega arith, omega arith)
low_bits_21 (negsuc n) e = (omega arith, omega arith)

-- one lemma for each layout: the row's bits and the fields are found again

placed_i : (m rd rs1 n : ℕ) → m < 2 ^ 15 → m % 4096 < 128 → rd < 32 → rs1 < 32 → n < 2 ^ 12
    → let w = m + rd * 2 ^ 7 + rs1 * 2 ^ 15 + n * 2 ^ 20 in
    (bit_and w 0x707F ≡ m) × (rd_of w ≡ rd) × (rs1_of w ≡ rs1) × (field 20 12 w ≡ n)
placed_i m rd rs1 n a b c d e =
    let w = m + rd * 2 ^ 7 + rs1 * 2 ^ 15 + n * 2 ^ 20 in
    (omega (arith, opcode_and_funct3 w, and_mask w 7), omega arith, omega arith, omega arith)

placed_s : (m rs1 rs2 n : ℕ) → m < 2 ^ 15 → m % 4096 < 128 → rs1 < 32 → rs2 < 32 → n < 2 ^ 12
    → let w = m + rs1 * 2 ^ 15 + rs2 * 2 ^ 20 + with_imm_s n in
    (bit_and w 0x707F ≡ m) × (rs1_of w ≡ rs1) × (rs2_of w ≡ rs2) × (field 25 7 w * 2 ^ 5 + field 7 5 w ≡ n)
placed_s m rs1 rs2 n a b c d e =
    let w = m + rs1 * 2 ^ 15 + rs2 * 2 ^ 20 + with_imm_s n in
    (omega (arith, opcode_and_funct3 w, and_mask w 7), omega arith, omega arith, omega arith)

placed_b : (m rs1 rs2 n : ℕ) → m < 2 ^ 15 → m % 4096 < 128 → rs1 < 32 → rs2 < 32 → n < 2 ^ 13 → n % 2 ≡ 0
    → let w = m + rs1 * 2 ^ 15 + rs2 * 2 ^ 20 + with_imm_b n in
    (bit_and w 0x707F ≡ m) × (rs1_of w ≡ rs1) × (rs2_of w ≡ rs2) × (field 31 1 w * 2 ^ 12 + field 7 1 w * 2 ^ 11 + field 25 6 w * 2 ^ 5 + field 8 4 w * 2 ≡ n)
placed_b m rs1 rs2 n a b c d e g =
    let w = m + rs1 * 2 ^ 15 + rs2 * 2 ^ 20 + with_imm_b n in
    (omega (arith, opcode_and_funct3 w, and_mask w 7), omega arith, omega arith, omega arith)

placed_u : (m rd n : ℕ) → m < 128 → rd < 32 → n % 2 ^ 12 ≡ 0 → n < 2 ^ 32
    → let w = m + rd * 2 ^ 7 + n in
    (bit_and w 0x7F ≡ m) × (rd_of w ≡ rd) × (field 12 20 w * 2 ^ 12 ≡ n)
placed_u m rd n a b c d =
    let w = m + rd * 2 ^ 7 + n in
    (omega (arith, and_mask w 7), omega arith, omega arith)

placed_j : (rd n : ℕ) → rd < 32 → n < 2 ^ 21 → n % 2 ≡ 0
    → let w = 0x6F + rd * 2 ^ 7 + with_imm_j n in
    (bit_and w 0x7F ≡ 0x6F) × (rd_of w ≡ rd) × (field 31 1 w * 2 ^ 20 + field 12 8 w * 2 ^ 12 + field 20 1 w * 2 ^ 11 + field 21 10 w * 2 ≡ n)
placed_j rd n a b c =
    let w = 0x6F + rd * 2 ^ 7 + with_imm_j n in
    (omega (arith, and_mask w 7), omega arith, omega arith)

-- bits that are funct7, funct3 and opcode alone
placed_r : (m rd rs1 rs2 : ℕ) → m < 2 ^ 32 → m / 2 ^ 15 % 2 ^ 10 ≡ 0 → m % 4096 < 128 → rd < 32 → rs1 < 32 → rs2 < 32
    → let w = m + rd * 2 ^ 7 + rs1 * 2 ^ 15 + rs2 * 2 ^ 20 in
    (bit_and w 0xFE00707F ≡ m) × (rd_of w ≡ rd) × (rs1_of w ≡ rs1) × (rs2_of w ≡ rs2)
placed_r m rd rs1 rs2 a b c d e f =
    let w = m + rd * 2 ^ 7 + rs1 * 2 ^ 15 + rs2 * 2 ^ 20 in
    (omega (arith, with_funct7 w, opcode_and_funct3 w, and_mask w 7), omega arith, omega arith, omega arith)

-- bits that are funct5, funct3 and opcode alone
placed_a : (m rd rs1 rs2 order : ℕ) → m < 2 ^ 32 → m / 2 ^ 15 % 2 ^ 12 ≡ 0 → m % 4096 < 128 → rd < 32 → rs1 < 32 → rs2 < 32 → order < 4
    → let w = m + rd * 2 ^ 7 + rs1 * 2 ^ 15 + rs2 * 2 ^ 20 + order * 2 ^ 25 in
    (bit_and w 0xF800707F ≡ m) × (rd_of w ≡ rd) × (rs1_of w ≡ rs1) × (rs2_of w ≡ rs2) × (order_of w ≡ order)
placed_a m rd rs1 rs2 order a b c d e f g =
    let w = m + rd * 2 ^ 7 + rs1 * 2 ^ 15 + rs2 * 2 ^ 20 + order * 2 ^ 25 in
    (omega (arith, with_funct5 w, opcode_and_funct3 w, and_mask w 7), omega arith, omega arith, omega arith, omega arith)

placed_l : (rd rs1 order : ℕ) → rd < 32 → rs1 < 32 → order < 4
    → let w = 0x1000202F + rd * 2 ^ 7 + rs1 * 2 ^ 15 + order * 2 ^ 25 in
    (bit_and w 0xF9F0707F ≡ 0x1000202F) × (rd_of w ≡ rd) × (rs1_of w ≡ rs1) × (order_of w ≡ order)
placed_l rd rs1 order a b c =
    let w = 0x1000202F + rd * 2 ^ 7 + rs1 * 2 ^ 15 + order * 2 ^ 25 in
    (omega (arith, with_rs2 w, opcode_and_funct3 w, and_mask w 7), omega arith, omega arith, omega arith)

-- the rows of each operation: the bits of a word that settle it, and the shape of the row's own bits
upper_at : (op : UpperOp) (w : ℕ) → bit_and w 0x7F ≡ upper_bits op → meaning w ≡ Some (upper op w)
unfolding table
upper_at upper_op.Lui w h = settle 0x7F 0x00000037 w h refl
upper_at upper_op.Auipc w h = settle 0x7F 0x00000017 w h refl

upper_shape : (op : UpperOp) → (upper_bits op < 128)
upper_shape upper_op.Lui = lit< tt
upper_shape upper_op.Auipc = lit< tt

branch_at : (op : BranchOp) (w : ℕ) → bit_and w 0x707F ≡ branch_bits op → meaning w ≡ Some (branch op w)
unfolding table
branch_at branch_op.Beq w h = settle 0x707F 0x00000063 w h refl
branch_at branch_op.Bne w h = settle 0x707F 0x00001063 w h refl
branch_at branch_op.Blt w h = settle 0x707F 0x00004063 w h refl
branch_at branch_op.Bge w h = settle 0x707F 0x00005063 w h refl
branch_at branch_op.Bltu w h = settle 0x707F 0x00006063 w h refl
branch_at branch_op.Bgeu w h = settle 0x707F 0x00007063 w h refl

branch_shape : (op : BranchOp) → (branch_bits op < 2 ^ 15) × (branch_bits op % 4096 < 128)
branch_shape branch_op.Beq = (lit< tt, lit< tt)
branch_shape branch_op.Bne = (lit< tt, lit< tt)
branch_shape branch_op.Blt = (lit< tt, lit< tt)
branch_shape branch_op.Bge = (lit< tt, lit< tt)
branch_shape branch_op.Bltu = (lit< tt, lit< tt)
branch_shape branch_op.Bgeu = (lit< tt, lit< tt)

load_at : (op : LoadOp) (w : ℕ) → bit_and w 0x707F ≡ load_bits op → meaning w ≡ Some (load op w)
unfolding table
load_at load_op.Lb w h = settle 0x707F 0x00000003 w h refl
load_at load_op.Lh w h = settle 0x707F 0x00001003 w h refl
load_at load_op.Lw w h = settle 0x707F 0x00002003 w h refl
load_at load_op.Lbu w h = settle 0x707F 0x00004003 w h refl
load_at load_op.Lhu w h = settle 0x707F 0x00005003 w h refl

load_shape : (op : LoadOp) → (load_bits op < 2 ^ 15) × (load_bits op % 4096 < 128)
load_shape load_op.Lb = (lit< tt, lit< tt)
load_shape load_op.Lh = (lit< tt, lit< tt)
load_shape load_op.Lw = (lit< tt, lit< tt)
load_shape load_op.Lbu = (lit< tt, lit< tt)
load_shape load_op.Lhu = (lit< tt, lit< tt)

store_at : (op : StoreOp) (w : ℕ) → bit_and w 0x707F ≡ store_bits op → meaning w ≡ Some (store op w)
unfolding table
store_at store_op.Sb w h = settle 0x707F 0x00000023 w h refl
store_at store_op.Sh w h = settle 0x707F 0x00001023 w h refl
store_at store_op.Sw w h = settle 0x707F 0x00002023 w h refl

store_shape : (op : StoreOp) → (store_bits op < 2 ^ 15) × (store_bits op % 4096 < 128)
store_shape store_op.Sb = (lit< tt, lit< tt)
store_shape store_op.Sh = (lit< tt, lit< tt)
store_shape store_op.Sw = (lit< tt, lit< tt)

imm_at : (op : ImmOp) (w : ℕ) → bit_and w 0x707F ≡ imm_bits op → meaning w ≡ Some (imm op w)
unfolding table
imm_at imm_op.Addi w h = settle 0x707F 0x00000013 w h refl
imm_at imm_op.Slti w h = settle 0x707F 0x00002013 w h refl
imm_at imm_op.Sltiu w h = settle 0x707F 0x00003013 w h refl
imm_at imm_op.Xori w h = settle 0x707F 0x00004013 w h refl
imm_at imm_op.Ori w h = settle 0x707F 0x00006013 w h refl
imm_at imm_op.Andi w h = settle 0x707F 0x00007013 w h refl

imm_shape : (op : ImmOp) → (imm_bits op < 2 ^ 15) × (imm_bits op % 4096 < 128)
imm_shape imm_op.Addi = (lit< tt, lit< tt)
imm_shape imm_op.Slti = (lit< tt, lit< tt)
imm_shape imm_op.Sltiu = (lit< tt, lit< tt)
imm_shape imm_op.Xori = (lit< tt, lit< tt)
imm_shape imm_op.Ori = (lit< tt, lit< tt)
imm_shape imm_op.Andi = (lit< tt, lit< tt)

shift_at : (op : ShiftOp) (w : ℕ) → bit_and w 0xFE00707F ≡ shift_bits op → meaning w ≡ Some (shift op w)
unfolding table
shift_at shift_op.Slli w h = settle 0xFE00707F 0x00001013 w h refl
shift_at shift_op.Srli w h = settle 0xFE00707F 0x00005013 w h refl
shift_at shift_op.Srai w h = settle 0xFE00707F 0x40005013 w h refl

shift_shape : (op : ShiftOp) → (shift_bits op < 2 ^ 32) × (shift_bits op / 2 ^ 15 % 2 ^ 10 ≡ 0) × (shift_bits op % 4096 < 128)
shift_shape shift_op.Slli = (lit< tt, refl, lit< tt)
shift_shape shift_op.Srli = (lit< tt, refl, lit< tt)
shift_shape shift_op.Srai = (lit< tt, refl, lit< tt)

reg_at : (op : RegOp) (w : ℕ) → bit_and w 0xFE00707F ≡ reg_bits op → meaning w ≡ Some (reg op w)
unfolding table
reg_at reg_op.Add w h = settle 0xFE00707F 0x00000033 w h refl
reg_at reg_op.Sub w h = settle 0xFE00707F 0x40000033 w h refl
reg_at reg_op.Sll w h = settle 0xFE00707F 0x00001033 w h refl
reg_at reg_op.Slt w h = settle 0xFE00707F 0x00002033 w h refl
reg_at reg_op.Sltu w h = settle 0xFE00707F 0x00003033 w h refl
reg_at reg_op.Xor w h = settle 0xFE00707F 0x00004033 w h refl
reg_at reg_op.Srl w h = settle 0xFE00707F 0x00005033 w h refl
reg_at reg_op.Sra w h = settle 0xFE00707F 0x40005033 w h refl
reg_at reg_op.Or w h = settle 0xFE00707F 0x00006033 w h refl
reg_at reg_op.And w h = settle 0xFE00707F 0x00007033 w h refl
reg_at reg_op.Mul w h = settle 0xFE00707F 0x02000033 w h refl
reg_at reg_op.Mulh w h = settle 0xFE00707F 0x02001033 w h refl
reg_at reg_op.Mulhsu w h = settle 0xFE00707F 0x02002033 w h refl
reg_at reg_op.Mulhu w h = settle 0xFE00707F 0x02003033 w h refl
reg_at reg_op.Div w h = settle 0xFE00707F 0x02004033 w h refl
reg_at reg_op.Divu w h = settle 0xFE00707F 0x02005033 w h refl
reg_at reg_op.Rem w h = settle 0xFE00707F 0x02006033 w h refl
reg_at reg_op.Remu w h = settle 0xFE00707F 0x02007033 w h refl

reg_shape : (op : RegOp) → (reg_bits op < 2 ^ 32) × (reg_bits op / 2 ^ 15 % 2 ^ 10 ≡ 0) × (reg_bits op % 4096 < 128)
reg_shape reg_op.Add = (lit< tt, refl, lit< tt)
reg_shape reg_op.Sub = (lit< tt, refl, lit< tt)
reg_shape reg_op.Sll = (lit< tt, refl, lit< tt)
reg_shape reg_op.Slt = (lit< tt, refl, lit< tt)
reg_shape reg_op.Sltu = (lit< tt, refl, lit< tt)
reg_shape reg_op.Xor = (lit< tt, refl, lit< tt)
reg_shape reg_op.Srl = (lit< tt, refl, lit< tt)
reg_shape reg_op.Sra = (lit< tt, refl, lit< tt)
reg_shape reg_op.Or = (lit< tt, refl, lit< tt)
reg_shape reg_op.And = (lit< tt, refl, lit< tt)
reg_shape reg_op.Mul = (lit< tt, refl, lit< tt)
reg_shape reg_op.Mulh = (lit< tt, refl, lit< tt)
reg_shape reg_op.Mulhsu = (lit< tt, refl, lit< tt)
reg_shape reg_op.Mulhu = (lit< tt, refl, lit< tt)
reg_shape reg_op.Div = (lit< tt, refl, lit< tt)
reg_shape reg_op.Divu = (lit< tt, refl, lit< tt)
reg_shape reg_op.Rem = (lit< tt, refl, lit< tt)
reg_shape reg_op.Remu = (lit< tt, refl, lit< tt)

csr_at : (op : CsrOp) (w : ℕ) → bit_and w 0x707F ≡ csr_bits op → meaning w ≡ Some (csr op w)
unfolding table
csr_at csr_op.Csrrw w h = settle 0x707F 0x00001073 w h refl
csr_at csr_op.Csrrs w h = settle 0x707F 0x00002073 w h refl
csr_at csr_op.Csrrc w h = settle 0x707F 0x00003073 w h refl
csr_at csr_op.Csrrwi w h = settle 0x707F 0x00005073 w h refl
csr_at csr_op.Csrrsi w h = settle 0x707F 0x00006073 w h refl
csr_at csr_op.Csrrci w h = settle 0x707F 0x00007073 w h refl

csr_shape : (op : CsrOp) → (csr_bits op < 2 ^ 15) × (csr_bits op % 4096 < 128)
csr_shape csr_op.Csrrw = (lit< tt, lit< tt)
csr_shape csr_op.Csrrs = (lit< tt, lit< tt)
csr_shape csr_op.Csrrc = (lit< tt, lit< tt)
csr_shape csr_op.Csrrwi = (lit< tt, lit< tt)
csr_shape csr_op.Csrrsi = (lit< tt, lit< tt)
csr_shape csr_op.Csrrci = (lit< tt, lit< tt)

amo_at : (op : AmoOp) (w : ℕ) → bit_and w 0xF800707F ≡ amo_bits op → meaning w ≡ Some (amo op w)
unfolding table
amo_at amo_op.Swap w h = settle 0xF800707F 0x0800202f w h refl
amo_at amo_op.Add w h = settle 0xF800707F 0x0000202f w h refl
amo_at amo_op.Xor w h = settle 0xF800707F 0x2000202f w h refl
amo_at amo_op.And w h = settle 0xF800707F 0x6000202f w h refl
amo_at amo_op.Or w h = settle 0xF800707F 0x4000202f w h refl
amo_at amo_op.Min w h = settle 0xF800707F 0x8000202f w h refl
amo_at amo_op.Max w h = settle 0xF800707F 0xa000202f w h refl
amo_at amo_op.Minu w h = settle 0xF800707F 0xc000202f w h refl
amo_at amo_op.Maxu w h = settle 0xF800707F 0xe000202f w h refl

amo_shape : (op : AmoOp) → (amo_bits op < 2 ^ 32) × (amo_bits op / 2 ^ 15 % 2 ^ 12 ≡ 0) × (amo_bits op % 4096 < 128)
amo_shape amo_op.Swap = (lit< tt, refl, lit< tt)
amo_shape amo_op.Add = (lit< tt, refl, lit< tt)
amo_shape amo_op.Xor = (lit< tt, refl, lit< tt)
amo_shape amo_op.And = (lit< tt, refl, lit< tt)
amo_shape amo_op.Or = (lit< tt, refl, lit< tt)
amo_shape amo_op.Min = (lit< tt, refl, lit< tt)
amo_shape amo_op.Max = (lit< tt, refl, lit< tt)
amo_shape amo_op.Minu = (lit< tt, refl, lit< tt)
amo_shape amo_op.Maxu = (lit< tt, refl, lit< tt)

jalr_at : (w : ℕ) → bit_and w 0x707F ≡ 0x67 → meaning w ≡ Some (jalr w)
unfolding table
jalr_at w h = settle 0x707F 0x67 w h refl

fence_at : (w : ℕ) → bit_and w 0x707F ≡ 0xF → meaning w ≡ Some (Fence w)
unfolding table
fence_at w h = settle 0x707F 0xF w h refl

fence_i_at : (w : ℕ) → bit_and w 0x707F ≡ 0x100F → meaning w ≡ Some (FenceI w)
unfolding table
fence_i_at w h = settle 0x707F 0x100F w h refl

load_reserved_at : (w : ℕ) → bit_and w 0xF9F0707F ≡ 0x1000202F → meaning w ≡ Some (load_reserved w)
unfolding table
load_reserved_at w h = settle 0xF9F0707F 0x1000202F w h refl

store_conditional_at : (w : ℕ) → bit_and w 0xF800707F ≡ 0x1800202F → meaning w ≡ Some (store_conditional w)
unfolding table
store_conditional_at w h = settle 0xF800707F 0x1800202F w h refl

-- the word of an instruction means it
pub encoded_means : (i : Instr) → Fits i → meaning (encoded i) ≡ Some i
encoded_means (Upper op rd imm) f =
    let p = placed_u (upper_bits op) rd imm (upper_shape op) f.0 f.1 f.2 in
    upper_at op (encoded (Upper op rd imm)) p.0 ∙ (cc (p.1, p.2))
encoded_means (Jal rd offset) f =
    let s = low_bits_21 offset f.2 in
    let p = placed_j rd (low_bits 21 offset) f.0 s.0 s.1 in
    let o : imm_j (encoded (Jal rd offset)) ≡ offset = ap (signed_field 21) p.2 ∙ number_of_21 offset f.1 in
    jal_at (encoded (Jal rd offset)) p.0 ∙ (cc (p.1, o))
encoded_means (Jalr rd rs1 offset) f =
    let p = placed_i 0x67 rd rs1 (low_bits 12 offset) (lit< tt) (lit< tt) f.0 f.1 (low_bits_12 offset) in
    let o : imm_i (encoded (Jalr rd rs1 offset)) ≡ offset = ap (signed_field 12) p.3 ∙ number_of_12 offset f.2 in
    jalr_at (encoded (Jalr rd rs1 offset)) p.0 ∙ (cc (p.1, p.2, o))
encoded_means (Branch op rs1 rs2 offset) f =
    let s = branch_shape op in
    let t = low_bits_13 offset f.3 in
    let p = placed_b (branch_bits op) rs1 rs2 (low_bits 13 offset) s.0 s.1 f.0 f.1 t.0 t.1 in
    let o : imm_b (encoded (Branch op rs1 rs2 offset)) ≡ offset = ap (signed_field 13) p.3 ∙ number_of_13 offset f.2 in
    branch_at op (encoded (Branch op rs1 rs2 offset)) p.0 ∙ (cc (p.1, p.2, o))
encoded_means (Store op rs1 rs2 offset) f =
    let s = store_shape op in
    let p = placed_s (store_bits op) rs1 rs2 (low_bits 12 offset) s.0 s.1 f.0 f.1 (low_bits_12 offset) in
    let o : imm_s (encoded (Store op rs1 rs2 offset)) ≡ offset = ap (signed_field 12) p.3 ∙ number_of_12 offset f.2 in
    store_at op (encoded (Store op rs1 rs2 offset)) p.0 ∙ (cc (p.1, p.2, o))
encoded_means (Load op rd rs1 offset) f =
    let s = load_shape op in
    let p = placed_i (load_bits op) rd rs1 (low_bits 12 offset) s.0 s.1 f.0 f.1 (low_bits_12 offset) in
    let o : imm_i (encoded (Load op rd rs1 offset)) ≡ offset = ap (signed_field 12) p.3 ∙ number_of_12 offset f.2 in
    load_at op (encoded (Load op rd rs1 offset)) p.0 ∙ (cc (p.1, p.2, o))
encoded_means (Imm op rd rs1 imm) f =
    let s = imm_shape op in
    let p = placed_i (imm_bits op) rd rs1 (low_bits 12 imm) s.0 s.1 f.0 f.1 (low_bits_12 imm) in
    let o : imm_i (encoded (Imm op rd rs1 imm)) ≡ imm = ap (signed_field 12) p.3 ∙ number_of_12 imm f.2 in
    imm_at op (encoded (Imm op rd rs1 imm)) p.0 ∙ (cc (p.1, p.2, o))
encoded_means (Shift op rd rs1 amount) f =
    let s = shift_shape op in
    let p = placed_r (shift_bits op) rd rs1 amount s.0 s.1 s.2 f.0 f.1 f.2 in
    shift_at op (encoded (Shift op rd rs1 amount)) p.0 ∙ (cc (p.1, p.2, p.3))
encoded_means (Reg op rd rs1 rs2) f =
    let s = reg_shape op in
    let p = placed_r (reg_bits op) rd rs1 rs2 s.0 s.1 s.2 f.0 f.1 f.2 in
    reg_at op (encoded (Reg op rd rs1 rs2)) p.0 ∙ (cc (p.1, p.2, p.3))
encoded_means (Csr op rd rs1 number) f =
    let s = csr_shape op in
    let p = placed_i (csr_bits op) rd rs1 number s.0 s.1 f.0 f.1 f.2 in
    csr_at op (encoded (Csr op rd rs1 number)) p.0 ∙ (cc (p.1, p.2, p.3))
encoded_means (LoadReserved rd rs1 order) f =
    let p = placed_l rd rs1 order f.0 f.1 f.2 in
    load_reserved_at (encoded (LoadReserved rd rs1 order)) p.0 ∙ (cc (p.1, p.2, p.3))
encoded_means (StoreConditional rd rs1 rs2 order) f =
    let p = placed_a 0x1800202F rd rs1 rs2 order (lit< tt) refl (lit< tt) f.0 f.1 f.2 f.3 in
    store_conditional_at (encoded (StoreConditional rd rs1 rs2 order)) p.0 ∙ (cc (p.1, p.2, p.3, p.4))
encoded_means (Amo op rd rs1 rs2 order) f =
    let s = amo_shape op in
    let p = placed_a (amo_bits op) rd rs1 rs2 order s.0 s.1 s.2 f.0 f.1 f.2 f.3 in
    amo_at op (encoded (Amo op rd rs1 rs2 order)) p.0 ∙ (cc (p.1, p.2, p.3, p.4))
encoded_means (Fence word) f = fence_at word f.0
encoded_means (FenceI word) f = fence_i_at word f.0
encoded_means Ecall f = ecall_at
encoded_means Ebreak f = ebreak_at
encoded_means Mret f = mret_at
encoded_means Wfi f = wfi_at

-- the bounds of the layouts
below_r : (m rd rs1 n : ℕ) → m < 2 ^ 32 → m / 2 ^ 15 % 2 ^ 10 ≡ 0 → m % 4096 < 128 → rd < 32 → rs1 < 32 → n < 32
    → m + rd * 2 ^ 7 + rs1 * 2 ^ 15 + n * 2 ^ 20 < 2 ^ 32
below_r m rd rs1 n a b c d e f = omega arith

below_a : (m rd rs1 rs2 order : ℕ) → m < 2 ^ 32 → m / 2 ^ 15 % 2 ^ 12 ≡ 0 → m % 4096 < 128 → rd < 32 → rs1 < 32 → rs2 < 32 → order < 4
    → m + rd * 2 ^ 7 + rs1 * 2 ^ 15 + rs2 * 2 ^ 20 + order * 2 ^ 25 < 2 ^ 32
below_a m rd rs1 rs2 order a b c d e f g = omega arith

below_i : (m rd rs1 n : ℕ) → m < 2 ^ 15 → m % 4096 < 128 → rd < 32 → rs1 < 32 → n < 2 ^ 12 → m + rd * 2 ^ 7 + rs1 * 2 ^ 15 + n * 2 ^ 20 < 2 ^ 32
below_i m rd rs1 n a b c d e = omega arith

below_s : (m rs1 rs2 n : ℕ) → m < 2 ^ 15 → m % 4096 < 128 → rs1 < 32 → rs2 < 32 → n < 2 ^ 12 → m + rs1 * 2 ^ 15 + rs2 * 2 ^ 20 + with_imm_s n < 2 ^ 32
below_s m rs1 rs2 n a b c d e = omega arith

below_b : (m rs1 rs2 n : ℕ) → m < 2 ^ 15 → m % 4096 < 128 → rs1 < 32 → rs2 < 32 → n < 2 ^ 13 → m + rs1 * 2 ^ 15 + rs2 * 2 ^ 20 + with_imm_b n < 2 ^ 32
below_b m rs1 rs2 n a b c d e = omega arith

pub encoded_below : (i : Instr) → Fits i → encoded i < 2 ^ 32
encoded_below (Upper op rd imm) f = omega (arith, upper_shape op, f.0, f.1, f.2)
encoded_below (Jal rd offset) f = omega (arith, f.0, (low_bits_21 offset f.2).0)
encoded_below (Jalr rd rs1 offset) f = below_i 0x67 rd rs1 (low_bits 12 offset) (lit< tt) (lit< tt) f.0 f.1 (low_bits_12 offset)
encoded_below (Branch op rs1 rs2 offset) f =
    let s = branch_shape op in below_b (branch_bits op) rs1 rs2 (low_bits 13 offset) s.0 s.1 f.0 f.1 (low_bits_13 offset f.3).0
encoded_below (Load op rd rs1 offset) f = let s = load_shape op in below_i (load_bits op) rd rs1 (low_bits 12 offset) s.0 s.1 f.0 f.1 (low_bits_12 offset)
encoded_below (Store op rs1 rs2 offset) f = let s = store_shape op in below_s (store_bits op) rs1 rs2 (low_bits 12 offset) s.0 s.1 f.0 f.1 (low_bits_12 offset)
encoded_below (Imm op rd rs1 imm) f = let s = imm_shape op in below_i (imm_bits op) rd rs1 (low_bits 12 imm) s.0 s.1 f.0 f.1 (low_bits_12 imm)
encoded_below (Shift op rd rs1 amount) f = let s = shift_shape op in below_r (shift_bits op) rd rs1 amount s.0 s.1 s.2 f.0 f.1 f.2
encoded_below (Reg op rd rs1 rs2) f = let s = reg_shape op in below_r (reg_bits op) rd rs1 rs2 s.0 s.1 s.2 f.0 f.1 f.2
encoded_below (Csr op rd rs1 number) f = let s = csr_shape op in below_i (csr_bits op) rd rs1 number s.0 s.1 f.0 f.1 f.2
encoded_below (LoadReserved rd rs1 order) f = omega (arith, f.0, f.1, f.2)
encoded_below (StoreConditional rd rs1 rs2 order) f = below_a 0x1800202F rd rs1 rs2 order (lit< tt) refl (lit< tt) f.0 f.1 f.2 f.3
encoded_below (Amo op rd rs1 rs2 order) f = let s = amo_shape op in below_a (amo_bits op) rd rs1 rs2 order s.0 s.1 s.2 f.0 f.1 f.2 f.3
encoded_below (Fence word) f = f.1
encoded_below (FenceI word) f = f.1
encoded_below Ecall f = lit< tt
encoded_below Ebreak f = lit< tt
encoded_below Mret f = lit< tt
encoded_below Wfi f = lit< tt

pub word_means : (v : ℕ) (i : Instr) → v ≡ encoded i → Fits i → meaning v ≡ Some i
word_means v i e f = subst (λ x. meaning x ≡ Some i) (sym e) (encoded_means i f)

-- no other word means it
pub word_only : (v w : ℕ) (i : Instr) → v ≡ encoded i → w < 2 ^ 32 → meaning w ≡ Some i → w ≡ v
word_only v w i e b m = sym (meaning_encoded w i b m) ∙ sym e

pub ruleset words = (word_means, word_only)
