-- The names of instructions, and what stands behind a name for the bits aq and rl.
use Rattle.std.specs.Prelude.{ℕ, ◌==◌, if◌then◌else◌, List, [], codes}
use Rattle.rv_decode.specs.declared.UpperOp.{UpperOp}
use Rattle.rv_decode.specs.declared.UpperOp.TheVariants as upper_op
use Rattle.rv_decode.specs.declared.BranchOp.{BranchOp}
use Rattle.rv_decode.specs.declared.BranchOp.TheVariants as branch_op
use Rattle.rv_decode.specs.declared.LoadOp.{LoadOp}
use Rattle.rv_decode.specs.declared.LoadOp.TheVariants as load_op
use Rattle.rv_decode.specs.declared.StoreOp.{StoreOp}
use Rattle.rv_decode.specs.declared.StoreOp.TheVariants as store_op
use Rattle.rv_decode.specs.declared.ImmOp.{ImmOp}
use Rattle.rv_decode.specs.declared.ImmOp.TheVariants as imm_op
use Rattle.rv_decode.specs.declared.ShiftOp.{ShiftOp}
use Rattle.rv_decode.specs.declared.ShiftOp.TheVariants as shift_op
use Rattle.rv_decode.specs.declared.RegOp.{RegOp}
use Rattle.rv_decode.specs.declared.RegOp.TheVariants as reg_op
use Rattle.rv_decode.specs.declared.CsrOp.{CsrOp}
use Rattle.rv_decode.specs.declared.CsrOp.TheVariants as csr_op
use Rattle.rv_decode.specs.declared.AmoOp.{AmoOp}
use Rattle.rv_decode.specs.declared.AmoOp.TheVariants as amo_op

abbrev pub upper_name : UpperOp → List ℕ
upper_name upper_op.Lui = codes "lui"
upper_name upper_op.Auipc = codes "auipc"

abbrev pub branch_name : BranchOp → List ℕ
branch_name branch_op.Beq = codes "beq"
branch_name branch_op.Bne = codes "bne"
branch_name branch_op.Blt = codes "blt"
branch_name branch_op.Bge = codes "bge"
branch_name branch_op.Bltu = codes "bltu"
branch_name branch_op.Bgeu = codes "bgeu"

abbrev pub load_name : LoadOp → List ℕ
load_name load_op.Lb = codes "lb"
load_name load_op.Lh = codes "lh"
load_name load_op.Lw = codes "lw"
load_name load_op.Lbu = codes "lbu"
load_name load_op.Lhu = codes "lhu"

abbrev pub store_name : StoreOp → List ℕ
store_name store_op.Sb = codes "sb"
store_name store_op.Sh = codes "sh"
store_name store_op.Sw = codes "sw"

abbrev pub imm_name : ImmOp → List ℕ
imm_name imm_op.Addi = codes "addi"
imm_name imm_op.Slti = codes "slti"
imm_name imm_op.Sltiu = codes "sltiu"
imm_name imm_op.Xori = codes "xori"
imm_name imm_op.Ori = codes "ori"
imm_name imm_op.Andi = codes "andi"

abbrev pub shift_name : ShiftOp → List ℕ
shift_name shift_op.Slli = codes "slli"
shift_name shift_op.Srli = codes "srli"
shift_name shift_op.Srai = codes "srai"

abbrev pub reg_name : RegOp → List ℕ
reg_name reg_op.Add = codes "add"
reg_name reg_op.Sub = codes "sub"
reg_name reg_op.Sll = codes "sll"
reg_name reg_op.Slt = codes "slt"
reg_name reg_op.Sltu = codes "sltu"
reg_name reg_op.Xor = codes "xor"
reg_name reg_op.Srl = codes "srl"
reg_name reg_op.Sra = codes "sra"
reg_name reg_op.Or = codes "or"
reg_name reg_op.And = codes "and"
reg_name reg_op.Mul = codes "mul"
reg_name reg_op.Mulh = codes "mulh"
reg_name reg_op.Mulhsu = codes "mulhsu"
reg_name reg_op.Mulhu = codes "mulhu"
reg_name reg_op.Div = codes "div"
reg_name reg_op.Divu = codes "divu"
reg_name reg_op.Rem = codes "rem"
reg_name reg_op.Remu = codes "remu"

abbrev pub csr_name : CsrOp → List ℕ
csr_name csr_op.Csrrw = codes "csrrw"
csr_name csr_op.Csrrs = codes "csrrs"
csr_name csr_op.Csrrc = codes "csrrc"
csr_name csr_op.Csrrwi = codes "csrrwi"
csr_name csr_op.Csrrsi = codes "csrrsi"
csr_name csr_op.Csrrci = codes "csrrci"

abbrev pub amo_name : AmoOp → List ℕ
amo_name amo_op.Swap = codes "amoswap.w"
amo_name amo_op.Add = codes "amoadd.w"
amo_name amo_op.Xor = codes "amoxor.w"
amo_name amo_op.And = codes "amoand.w"
amo_name amo_op.Or = codes "amoor.w"
amo_name amo_op.Min = codes "amomin.w"
amo_name amo_op.Max = codes "amomax.w"
amo_name amo_op.Minu = codes "amominu.w"
amo_name amo_op.Maxu = codes "amomaxu.w"

-- what stands behind the name for the bits aq and rl
abbrev pub order_suffix : ℕ → List ℕ
order_suffix order =
    if order == 0 then []
    else if order == 1 then codes ".rl"
    else if order == 2 then codes ".aq"
    else codes ".aqrl"
