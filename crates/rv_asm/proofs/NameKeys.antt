-- The number of each name: its bytes in base 256.
use Rattle.std.specs.Prelude.{ℕ}
use Rattle.rv_decode.specs.declared.UpperOp.{UpperOp}
use Rattle.rv_decode.specs.declared.UpperOp.TheVariants as upper_op
use Rattle.rv_decode.specs.declared.BranchOp.{BranchOp}
use Rattle.rv_decode.specs.declared.BranchOp.TheVariants as branch_op
use Rattle.rv_decode.specs.declared.LoadOp.{LoadOp}
use Rattle.rv_decode.specs.declared.LoadOp.TheVariants as load_op
use Rattle.rv_decode.specs.declared.StoreOp.{StoreOp}
use Rattle.rv_decode.specs.declared.StoreOp.TheVariants as store_op
use Rattle.rv_decode.specs.declared.ImmOp.{ImmOp}
use Rattle.rv_decode.specs.declared.ImmOp.TheVariants as imm_op
use Rattle.rv_decode.specs.declared.ShiftOp.{ShiftOp}
use Rattle.rv_decode.specs.declared.ShiftOp.TheVariants as shift_op
use Rattle.rv_decode.specs.declared.RegOp.{RegOp}
use Rattle.rv_decode.specs.declared.RegOp.TheVariants as reg_op
use Rattle.rv_decode.specs.declared.CsrOp.{CsrOp}
use Rattle.rv_decode.specs.declared.CsrOp.TheVariants as csr_op
use Rattle.rv_decode.specs.declared.AmoOp.{AmoOp}
use Rattle.rv_decode.specs.declared.AmoOp.TheVariants as amo_op

abbrev pub upper_key : UpperOp → ℕ
upper_key upper_op.Lui = 0x6c7569
upper_key upper_op.Auipc = 0x6175697063

abbrev pub branch_key : BranchOp → ℕ
branch_key branch_op.Beq = 0x626571
branch_key branch_op.Bne = 0x626e65
branch_key branch_op.Blt = 0x626c74
branch_key branch_op.Bge = 0x626765
branch_key branch_op.Bltu = 0x626c7475
branch_key branch_op.Bgeu = 0x62676575

abbrev pub load_key : LoadOp → ℕ
load_key load_op.Lb = 0x6c62
load_key load_op.Lh = 0x6c68
load_key load_op.Lw = 0x6c77
load_key load_op.Lbu = 0x6c6275
load_key load_op.Lhu = 0x6c6875

abbrev pub store_key : StoreOp → ℕ
store_key store_op.Sb = 0x7362
store_key store_op.Sh = 0x7368
store_key store_op.Sw = 0x7377

abbrev pub imm_key : ImmOp → ℕ
imm_key imm_op.Addi = 0x61646469
imm_key imm_op.Slti = 0x736c7469
imm_key imm_op.Sltiu = 0x736c746975
imm_key imm_op.Xori = 0x786f7269
imm_key imm_op.Ori = 0x6f7269
imm_key imm_op.Andi = 0x616e6469

abbrev pub shift_key : ShiftOp → ℕ
shift_key shift_op.Slli = 0x736c6c69
shift_key shift_op.Srli = 0x73726c69
shift_key shift_op.Srai = 0x73726169

abbrev pub reg_key : RegOp → ℕ
reg_key reg_op.Add = 0x616464
reg_key reg_op.Sub = 0x737562
reg_key reg_op.Sll = 0x736c6c
reg_key reg_op.Slt = 0x736c74
reg_key reg_op.Sltu = 0x736c7475
reg_key reg_op.Xor = 0x786f72
reg_key reg_op.Srl = 0x73726c
reg_key reg_op.Sra = 0x737261
reg_key reg_op.Or = 0x6f72
reg_key reg_op.And = 0x616e64
reg_key reg_op.Mul = 0x6d756c
reg_key reg_op.Mulh = 0x6d756c68
reg_key reg_op.Mulhsu = 0x6d756c687375
reg_key reg_op.Mulhu = 0x6d756c6875
reg_key reg_op.Div = 0x646976
reg_key reg_op.Divu = 0x64697675
reg_key reg_op.Rem = 0x72656d
reg_key reg_op.Remu = 0x72656d75

abbrev pub csr_key : CsrOp → ℕ
csr_key csr_op.Csrrw = 0x6373727277
csr_key csr_op.Csrrs = 0x6373727273
csr_key csr_op.Csrrc = 0x6373727263
csr_key csr_op.Csrrwi = 0x637372727769
csr_key csr_op.Csrrsi = 0x637372727369
csr_key csr_op.Csrrci = 0x637372726369

abbrev pub amo_key : AmoOp → ℕ
amo_key amo_op.Swap = 0x616d6f73776170
amo_key amo_op.Add = 0x616d6f616464
amo_key amo_op.Xor = 0x616d6f786f72
amo_key amo_op.And = 0x616d6f616e64
amo_key amo_op.Or = 0x616d6f6f72
amo_key amo_op.Min = 0x616d6f6d696e
amo_key amo_op.Max = 0x616d6f6d6178
amo_key amo_op.Minu = 0x616d6f6d696e75
amo_key amo_op.Maxu = 0x616d6f6d617875
