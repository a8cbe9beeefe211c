-- The word of an instruction, built from the bits of its row and its fields. Private functions alone promise
-- this; what `encode` promises is by the table.
use Rattle.std.specs.Prelude.{ℕ, ℤ, pos, negsuc, ◌+◌, ◌-◌, ◌*◌, ◌/◌, ◌%◌, ◌^◌}
use Rattle.rv_decode.specs.declared.Instr.{Instr}
use Rattle.rv_decode.specs.declared.Instr.TheVariants.{Upper, Jal, Jalr, Branch, Load, Store, Imm, Shift, Reg, Fence, FenceI, Ecall, Ebreak, Mret, Wfi, Csr}
use Rattle.rv_decode.specs.declared.Instr.TheVariants.{LoadReserved, StoreConditional, Amo}
use Rattle.rv_decode.specs.declared.UpperOp.{UpperOp}
use Rattle.rv_decode.specs.declared.UpperOp.TheVariants as upper_op
use Rattle.rv_decode.specs.declared.BranchOp.{BranchOp}
use Rattle.rv_decode.specs.declared.BranchOp.TheVariants as branch_op
use Rattle.rv_decode.specs.declared.LoadOp.{LoadOp}
use Rattle.rv_decode.specs.declared.LoadOp.TheVariants as load_op
use Rattle.rv_decode.specs.declared.StoreOp.{StoreOp}
use Rattle.rv_decode.specs.declared.StoreOp.TheVariants as store_op
use Rattle.rv_decode.specs.declared.ImmOp.{ImmOp}
use Rattle.rv_decode.specs.declared.ImmOp.TheVariants as imm_op
use Rattle.rv_decode.specs.declared.ShiftOp.{ShiftOp}
use Rattle.rv_decode.specs.declared.ShiftOp.TheVariants as shift_op
use Rattle.rv_decode.specs.declared.RegOp.{RegOp}
use Rattle.rv_decode.specs.declared.RegOp.TheVariants as reg_op
use Rattle.rv_decode.specs.declared.CsrOp.{CsrOp}
use Rattle.rv_decode.specs.declared.CsrOp.TheVariants as csr_op
use Rattle.rv_decode.specs.declared.AmoOp.{AmoOp}
use Rattle.rv_decode.specs.declared.AmoOp.TheVariants as amo_op

abbrev pub low_bits : ℕ → ℤ → ℕ
low_bits k (pos n) = n % 2 ^ k
low_bits k (negsuc n) = 2 ^ k - 1 - n % 2 ^ k

abbrev pub load_bits : LoadOp → ℕ
load_bits load_op.Lb = 0x00000003
load_bits load_op.Lh = 0x00001003
load_bits load_op.Lw = 0x00002003
load_bits load_op.Lbu = 0x00004003
load_bits load_op.Lhu = 0x00005003

abbrev pub upper_bits : UpperOp → ℕ
upper_bits upper_op.Lui = 0x00000037
upper_bits upper_op.Auipc = 0x00000017

abbrev pub branch_bits : BranchOp → ℕ
branch_bits branch_op.Beq = 0x00000063
branch_bits branch_op.Bne = 0x00001063
branch_bits branch_op.Blt = 0x00004063
branch_bits branch_op.Bge = 0x00005063
branch_bits branch_op.Bltu = 0x00006063
branch_bits branch_op.Bgeu = 0x00007063

abbrev pub store_bits : StoreOp → ℕ
store_bits store_op.Sb = 0x00000023
store_bits store_op.Sh = 0x00001023
store_bits store_op.Sw = 0x00002023

abbrev pub imm_bits : ImmOp → ℕ
imm_bits imm_op.Addi = 0x00000013
imm_bits imm_op.Slti = 0x00002013
imm_bits imm_op.Sltiu = 0x00003013
imm_bits imm_op.Xori = 0x00004013
imm_bits imm_op.Ori = 0x00006013
imm_bits imm_op.Andi = 0x00007013

abbrev pub shift_bits : ShiftOp → ℕ
shift_bits shift_op.Slli = 0x00001013
shift_bits shift_op.Srli = 0x00005013
shift_bits shift_op.Srai = 0x40005013

abbrev pub reg_bits : RegOp → ℕ
reg_bits reg_op.Add = 0x00000033
reg_bits reg_op.Sub = 0x40000033
reg_bits reg_op.Sll = 0x00001033
reg_bits reg_op.Slt = 0x00002033
reg_bits reg_op.Sltu = 0x00003033
reg_bits reg_op.Xor = 0x00004033
reg_bits reg_op.Srl = 0x00005033
reg_bits reg_op.Sra = 0x40005033
reg_bits reg_op.Or = 0x00006033
reg_bits reg_op.And = 0x00007033
reg_bits reg_op.Mul = 0x02000033
reg_bits reg_op.Mulh = 0x02001033
reg_bits reg_op.Mulhsu = 0x02002033
reg_bits reg_op.Mulhu = 0x02003033
reg_bits reg_op.Div = 0x02004033
reg_bits reg_op.Divu = 0x02005033
reg_bits reg_op.Rem = 0x02006033
reg_bits reg_op.Remu = 0x02007033

abbrev pub csr_bits : CsrOp → ℕ
csr_bits csr_op.Csrrw = 0x00001073
csr_bits csr_op.Csrrs = 0x00002073
csr_bits csr_op.Csrrc = 0x00003073
csr_bits csr_op.Csrrwi = 0x00005073
csr_bits csr_op.Csrrsi = 0x00006073
csr_bits csr_op.Csrrci = 0x00007073

abbrev pub amo_bits : AmoOp → ℕ
amo_bits amo_op.Swap = 0x0800202f
amo_bits amo_op.Add = 0x0000202f
amo_bits amo_op.Xor = 0x2000202f
amo_bits amo_op.And = 0x6000202f
amo_bits amo_op.Or = 0x4000202f
amo_bits amo_op.Min = 0x8000202f
amo_bits amo_op.Max = 0xa000202f
amo_bits amo_op.Minu = 0xc000202f
amo_bits amo_op.Maxu = 0xe000202f

abbrev pub with_imm_s : ℕ → ℕ
with_imm_s n = n % 2 ^ 5 * 2 ^ 7 + n / 2 ^ 5 * 2 ^ 25

abbrev pub with_imm_b : ℕ → ℕ
with_imm_b n = n / 2 ^ 11 % 2 * 2 ^ 7 + n / 2 % 2 ^ 4 * 2 ^ 8 + n / 2 ^ 5 % 2 ^ 6 * 2 ^ 25 + n / 2 ^ 12 * 2 ^ 31

abbrev pub with_imm_j : ℕ → ℕ
with_imm_j n = n / 2 ^ 12 % 2 ^ 8 * 2 ^ 12 + n / 2 ^ 11 % 2 * 2 ^ 20 + n / 2 % 2 ^ 10 * 2 ^ 21 + n / 2 ^ 20 * 2 ^ 31

abbrev pub encoded : Instr → ℕ
encoded (Upper op rd imm) = upper_bits op + rd * 2 ^ 7 + imm
encoded (Jal rd offset) = 0x6F + rd * 2 ^ 7 + with_imm_j (low_bits 21 offset)
encoded (Jalr rd rs1 offset) = 0x67 + rd * 2 ^ 7 + rs1 * 2 ^ 15 + low_bits 12 offset * 2 ^ 20
encoded (Branch op rs1 rs2 offset) = branch_bits op + rs1 * 2 ^ 15 + rs2 * 2 ^ 20 + with_imm_b (low_bits 13 offset)
encoded (Load op rd rs1 offset) = load_bits op + rd * 2 ^ 7 + rs1 * 2 ^ 15 + low_bits 12 offset * 2 ^ 20
encoded (Store op rs1 rs2 offset) = store_bits op + rs1 * 2 ^ 15 + rs2 * 2 ^ 20 + with_imm_s (low_bits 12 offset)
encoded (Imm op rd rs1 imm) = imm_bits op + rd * 2 ^ 7 + rs1 * 2 ^ 15 + low_bits 12 imm * 2 ^ 20
encoded (Shift op rd rs1 amount) = shift_bits op + rd * 2 ^ 7 + rs1 * 2 ^ 15 + amount * 2 ^ 20
encoded (Reg op rd rs1 rs2) = reg_bits op + rd * 2 ^ 7 + rs1 * 2 ^ 15 + rs2 * 2 ^ 20
encoded (Fence word) = word
encoded (FenceI word) = word
encoded Ecall = 0x73
encoded Ebreak = 0x100073
encoded Mret = 0x30200073
encoded Wfi = 0x10500073
encoded (Csr op rd rs1 number) = csr_bits op + rd * 2 ^ 7 + rs1 * 2 ^ 15 + number * 2 ^ 20
encoded (LoadReserved rd rs1 order) = 0x1000202F + rd * 2 ^ 7 + rs1 * 2 ^ 15 + order * 2 ^ 25
encoded (StoreConditional rd rs1 rs2 order) = 0x1800202F + rd * 2 ^ 7 + rs1 * 2 ^ 15 + rs2 * 2 ^ 20 + order * 2 ^ 25
encoded (Amo op rd rs1 rs2 order) = amo_bits op + rd * 2 ^ 7 + rs1 * 2 ^ 15 + rs2 * 2 ^ 20 + order * 2 ^ 25
