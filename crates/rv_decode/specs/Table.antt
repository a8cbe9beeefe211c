-- The table of instructions: a word, a number below 2 ^ 32, means the one row that it matches, and is illegal
-- where it matches none. The rows are those of the RISC-V Unprivileged manual, chapter "RV32/64G Instruction Set
-- Listings", for RV32I, Zifencei, Zicsr, M and A; MRET and WFI are from the Privileged manual, section
-- "Machine-Mode Privileged Instructions".
use Rattle.std.specs.Prelude.{ℕ, ◌+◌, ◌-◌, ◌*◌, ◌/◌, ◌%◌, ◌^◌, ◌==◌, Bool, cond, nat_lt, List, [], ◌∷◌, Option, bit_and, ℤ, pos}
use Rattle.std.specs.Prelude.{◌-ℤ◌, AllPairs, IsTrue}
use Rattle.std.specs.List.{find}
use Rattle.std.specs.Option.{option_map}
use Rattle.rv_decode.specs.declared.Instr.{Instr}
use Rattle.rv_decode.specs.declared.Instr.TheVariants.{Upper, Jal, Jalr, Branch, Load, Store, Imm, Shift, Reg, Fence, FenceI, Ecall, Ebreak, Mret, Wfi, Csr}
use Rattle.rv_decode.specs.declared.Instr.TheVariants.{LoadReserved, StoreConditional, Amo}
use Rattle.rv_decode.specs.declared.UpperOp.{UpperOp}
use Rattle.rv_decode.specs.declared.UpperOp.TheVariants.{Lui, Auipc}
use Rattle.rv_decode.specs.declared.BranchOp.{BranchOp}
use Rattle.rv_decode.specs.declared.BranchOp.TheVariants.{Beq, Bne, Blt, Bge, Bltu, Bgeu}
use Rattle.rv_decode.specs.declared.LoadOp.{LoadOp}
use Rattle.rv_decode.specs.declared.LoadOp.TheVariants.{Lb, Lh, Lw, Lbu, Lhu}
use Rattle.rv_decode.specs.declared.StoreOp.{StoreOp}
use Rattle.rv_decode.specs.declared.StoreOp.TheVariants.{Sb, Sh, Sw}
use Rattle.rv_decode.specs.declared.ImmOp.{ImmOp}
use Rattle.rv_decode.specs.declared.ImmOp.TheVariants.{Addi, Slti, Sltiu, Xori, Ori, Andi}
use Rattle.rv_decode.specs.declared.ShiftOp.{ShiftOp}
use Rattle.rv_decode.specs.declared.ShiftOp.TheVariants.{Slli, Srli, Srai}
use Rattle.rv_decode.specs.declared.RegOp.{RegOp}
use Rattle.rv_decode.specs.declared.RegOp.TheVariants as reg_op
use Rattle.rv_decode.specs.declared.CsrOp.{CsrOp}
use Rattle.rv_decode.specs.declared.CsrOp.TheVariants.{Csrrw, Csrrs, Csrrc, Csrrwi, Csrrsi, Csrrci}
use Rattle.rv_decode.specs.declared.AmoOp.{AmoOp}
use Rattle.rv_decode.specs.declared.AmoOp.TheVariants as amo_op

-- the bits of a word from bit `low` on, `count` of them
abbrev pub field : ℕ → ℕ → ℕ → ℕ
field low count w = w / 2 ^ low % 2 ^ count

-- a number of `count` bits, read as signed
abbrev pub signed_field : ℕ → ℕ → ℤ
signed_field count n = cond (nat_lt n (2 ^ (count - 1))) (pos n) (pos n -ℤ pos (2 ^ count))

-- the usual places of the operands
abbrev pub rd_of : ℕ → ℕ
rd_of w = field 7 5 w

abbrev pub rs1_of : ℕ → ℕ
rs1_of w = field 15 5 w

abbrev pub rs2_of : ℕ → ℕ
rs2_of w = field 20 5 w

abbrev pub order_of : ℕ → ℕ
order_of w = field 25 2 w

-- The immediates of the forms I, S, B and J, as in the manual's section "Immediate Encoding Variants".

abbrev pub imm_i : ℕ → ℤ
imm_i w = signed_field 12 (field 20 12 w)

abbrev pub imm_s : ℕ → ℤ
imm_s w = signed_field 12 (field 25 7 w * 2 ^ 5 + field 7 5 w)

abbrev pub imm_b : ℕ → ℤ
imm_b w = signed_field 13 (field 31 1 w * 2 ^ 12 + field 7 1 w * 2 ^ 11 + field 25 6 w * 2 ^ 5 + field 8 4 w * 2)

abbrev pub imm_j : ℕ → ℤ
imm_j w = signed_field 21 (field 31 1 w * 2 ^ 20 + field 12 8 w * 2 ^ 12 + field 20 1 w * 2 ^ 11 + field 21 10 w * 2)

-- How each form takes its operands. FENCE and FENCE.I keep their whole word.

abbrev pub upper : UpperOp → ℕ → Instr
upper op w = Upper op (rd_of w) (field 12 20 w * 2 ^ 12)

abbrev pub jal : ℕ → Instr
jal w = Jal (rd_of w) (imm_j w)

abbrev pub jalr : ℕ → Instr
jalr w = Jalr (rd_of w) (rs1_of w) (imm_i w)

abbrev pub branch : BranchOp → ℕ → Instr
branch op w = Branch op (rs1_of w) (rs2_of w) (imm_b w)

abbrev pub load : LoadOp → ℕ → Instr
load op w = Load op (rd_of w) (rs1_of w) (imm_i w)

abbrev pub store : StoreOp → ℕ → Instr
store op w = Store op (rs1_of w) (rs2_of w) (imm_s w)

abbrev pub imm : ImmOp → ℕ → Instr
imm op w = Imm op (rd_of w) (rs1_of w) (imm_i w)

abbrev pub shift : ShiftOp → ℕ → Instr
shift op w = Shift op (rd_of w) (rs1_of w) (rs2_of w)

abbrev pub reg : RegOp → ℕ → Instr
reg op w = Reg op (rd_of w) (rs1_of w) (rs2_of w)

abbrev pub csr : CsrOp → ℕ → Instr
csr op w = Csr op (rd_of w) (rs1_of w) (field 20 12 w)

abbrev pub load_reserved : ℕ → Instr
load_reserved w = LoadReserved (rd_of w) (rs1_of w) (order_of w)

abbrev pub store_conditional : ℕ → Instr
store_conditional w = StoreConditional (rd_of w) (rs1_of w) (rs2_of w) (order_of w)

abbrev pub amo : AmoOp → ℕ → Instr
amo op w = Amo op (rd_of w) (rs1_of w) (rs2_of w) (order_of w)

abbrev pub whole : Instr → ℕ → Instr
whole i w = i

-- a row: the word matches it where `word & mask = match`, and then means `instr word`
pub record Row : Type 0 where
  pub mask : ℕ
  pub match : ℕ
  pub instr : ℕ → Instr

abbrev pub row : ℕ → ℕ → (ℕ → Instr) → Row
row mask match instr = record { mask = mask; match = match; instr = instr }

abbrev pub matches : ℕ → Row → Bool
matches w r = bit_and w r.mask == r.match

unfoldable pub table : List Row
table =
    row 0x0000007F 0x00000037 (upper Lui)
    ∷ row 0x0000007F 0x00000017 (upper Auipc)
    ∷ row 0x0000007F 0x0000006F jal
    ∷ row 0x0000707F 0x00000067 jalr
    ∷ row 0x0000707F 0x00000063 (branch Beq)
    ∷ row 0x0000707F 0x00001063 (branch Bne)
    ∷ row 0x0000707F 0x00004063 (branch Blt)
    ∷ row 0x0000707F 0x00005063 (branch Bge)
    ∷ row 0x0000707F 0x00006063 (branch Bltu)
    ∷ row 0x0000707F 0x00007063 (branch Bgeu)
    ∷ row 0x0000707F 0x00000003 (load Lb)
    ∷ row 0x0000707F 0x00001003 (load Lh)
    ∷ row 0x0000707F 0x00002003 (load Lw)
    ∷ row 0x0000707F 0x00004003 (load Lbu)
    ∷ row 0x0000707F 0x00005003 (load Lhu)
    ∷ row 0x0000707F 0x00000023 (store Sb)
    ∷ row 0x0000707F 0x00001023 (store Sh)
    ∷ row 0x0000707F 0x00002023 (store Sw)
    ∷ row 0x0000707F 0x00000013 (imm Addi)
    ∷ row 0x0000707F 0x00002013 (imm Slti)
    ∷ row 0x0000707F 0x00003013 (imm Sltiu)
    ∷ row 0x0000707F 0x00004013 (imm Xori)
    ∷ row 0x0000707F 0x00006013 (imm Ori)
    ∷ row 0x0000707F 0x00007013 (imm Andi)
    ∷ row 0xFE00707F 0x00001013 (shift Slli)
    ∷ row 0xFE00707F 0x00005013 (shift Srli)
    ∷ row 0xFE00707F 0x40005013 (shift Srai)
    ∷ row 0xFE00707F 0x00000033 (reg reg_op.Add)
    ∷ row 0xFE00707F 0x40000033 (reg reg_op.Sub)
    ∷ row 0xFE00707F 0x00001033 (reg reg_op.Sll)
    ∷ row 0xFE00707F 0x00002033 (reg reg_op.Slt)
    ∷ row 0xFE00707F 0x00003033 (reg reg_op.Sltu)
    ∷ row 0xFE00707F 0x00004033 (reg reg_op.Xor)
    ∷ row 0xFE00707F 0x00005033 (reg reg_op.Srl)
    ∷ row 0xFE00707F 0x40005033 (reg reg_op.Sra)
    ∷ row 0xFE00707F 0x00006033 (reg reg_op.Or)
    ∷ row 0xFE00707F 0x00007033 (reg reg_op.And)
    ∷ row 0xFE00707F 0x02000033 (reg reg_op.Mul)
    ∷ row 0xFE00707F 0x02001033 (reg reg_op.Mulh)
    ∷ row 0xFE00707F 0x02002033 (reg reg_op.Mulhsu)
    ∷ row 0xFE00707F 0x02003033 (reg reg_op.Mulhu)
    ∷ row 0xFE00707F 0x02004033 (reg reg_op.Div)
    ∷ row 0xFE00707F 0x02005033 (reg reg_op.Divu)
    ∷ row 0xFE00707F 0x02006033 (reg reg_op.Rem)
    ∷ row 0xFE00707F 0x02007033 (reg reg_op.Remu)
    ∷ row 0x0000707F 0x0000000F Fence
    ∷ row 0x0000707F 0x0000100F FenceI
    ∷ row 0xFFFFFFFF 0x00000073 (whole Ecall)
    ∷ row 0xFFFFFFFF 0x00100073 (whole Ebreak)
    ∷ row 0xFFFFFFFF 0x30200073 (whole Mret)
    ∷ row 0xFFFFFFFF 0x10500073 (whole Wfi)
    ∷ row 0x0000707F 0x00001073 (csr Csrrw)
    ∷ row 0x0000707F 0x00002073 (csr Csrrs)
    ∷ row 0x0000707F 0x00003073 (csr Csrrc)
    ∷ row 0x0000707F 0x00005073 (csr Csrrwi)
    ∷ row 0x0000707F 0x00006073 (csr Csrrsi)
    ∷ row 0x0000707F 0x00007073 (csr Csrrci)
    ∷ row 0xF9F0707F 0x1000202F load_reserved
    ∷ row 0xF800707F 0x1800202F store_conditional
    ∷ row 0xF800707F 0x0800202F (amo amo_op.Swap)
    ∷ row 0xF800707F 0x0000202F (amo amo_op.Add)
    ∷ row 0xF800707F 0x2000202F (amo amo_op.Xor)
    ∷ row 0xF800707F 0x6000202F (amo amo_op.And)
    ∷ row 0xF800707F 0x4000202F (amo amo_op.Or)
    ∷ row 0xF800707F 0x8000202F (amo amo_op.Min)
    ∷ row 0xF800707F 0xA000202F (amo amo_op.Max)
    ∷ row 0xF800707F 0xC000202F (amo amo_op.Minu)
    ∷ row 0xF800707F 0xE000202F (amo amo_op.Maxu)
    ∷ []

-- what the first row of a list that a word matches makes of it
abbrev pub first_of_rows : List Row → ℕ → Option Instr
first_of_rows rows w = option_map (λ r. r.instr w) (find (matches w) rows)

-- what a word means, or none for an illegal one
unfoldable pub meaning : ℕ → Option Instr
meaning w = first_of_rows table w

-- no word matches two rows, so the first row that it matches is the only one
abbrev pub NoTwoRowsMatch : Type 0
NoTwoRowsMatch = AllPairs (λ r s. (w : ℕ) → IsTrue (matches w r) → IsTrue (matches w s) → ⊥) table
