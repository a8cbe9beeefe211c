-- The operation that a name stands for, the name being one number: its bytes in base 256. Private functions alone
-- promise this; the grammar has no such numbers.
use Rattle.std.specs.Prelude.{ℕ, ◌==◌, if◌then◌else◌, Option, Some, None}
use Rattle.rv_decode.specs.declared.UpperOp.{UpperOp}
use Rattle.rv_decode.specs.declared.UpperOp.TheVariants as upper_op
use Rattle.rv_decode.specs.declared.BranchOp.{BranchOp}
use Rattle.rv_decode.specs.declared.BranchOp.TheVariants as branch_op
use Rattle.rv_decode.specs.declared.LoadOp.{LoadOp}
use Rattle.rv_decode.specs.declared.LoadOp.TheVariants as load_op
use Rattle.rv_decode.specs.declared.StoreOp.{StoreOp}
use Rattle.rv_decode.specs.declared.StoreOp.TheVariants as store_op
use Rattle.rv_decode.specs.declared.ImmOp.{ImmOp}
use Rattle.rv_decode.specs.declared.ImmOp.TheVariants as imm_op
use Rattle.rv_decode.specs.declared.ShiftOp.{ShiftOp}
use Rattle.rv_decode.specs.declared.ShiftOp.TheVariants as shift_op
use Rattle.rv_decode.specs.declared.RegOp.{RegOp}
use Rattle.rv_decode.specs.declared.RegOp.TheVariants as reg_op
use Rattle.rv_decode.specs.declared.CsrOp.{CsrOp}
use Rattle.rv_decode.specs.declared.CsrOp.TheVariants as csr_op
use Rattle.rv_decode.specs.declared.AmoOp.{AmoOp}
use Rattle.rv_decode.specs.declared.AmoOp.TheVariants as amo_op

abbrev pub upper_named : ℕ → Option UpperOp
upper_named key =
    if key == 0x6c7569 then Some upper_op.Lui
    else if key == 0x6175697063 then Some upper_op.Auipc
    else None

abbrev pub branch_named : ℕ → Option BranchOp
branch_named key =
    if key == 0x626571 then Some branch_op.Beq
    else if key == 0x626e65 then Some branch_op.Bne
    else if key == 0x626c74 then Some branch_op.Blt
    else if key == 0x626765 then Some branch_op.Bge
    else if key == 0x626c7475 then Some branch_op.Bltu
    else if key == 0x62676575 then Some branch_op.Bgeu
    else None

abbrev pub load_named : ℕ → Option LoadOp
load_named key =
    if key == 0x6c62 then Some load_op.Lb
    else if key == 0x6c68 then Some load_op.Lh
    else if key == 0x6c77 then Some load_op.Lw
    else if key == 0x6c6275 then Some load_op.Lbu
    else if key == 0x6c6875 then Some load_op.Lhu
    else None

abbrev pub store_named : ℕ → Option StoreOp
store_named key =
    if key == 0x7362 then Some store_op.Sb
    else if key == 0x7368 then Some store_op.Sh
    else if key == 0x7377 then Some store_op.Sw
    else None

abbrev pub imm_named : ℕ → Option ImmOp
imm_named key =
    if key == 0x61646469 then Some imm_op.Addi
    else if key == 0x736c7469 then Some imm_op.Slti
    else if key == 0x736c746975 then Some imm_op.Sltiu
    else if key == 0x786f7269 then Some imm_op.Xori
    else if key == 0x6f7269 then Some imm_op.Ori
    else if key == 0x616e6469 then Some imm_op.Andi
    else None

abbrev pub shift_named : ℕ → Option ShiftOp
shift_named key =
    if key == 0x736c6c69 then Some shift_op.Slli
    else if key == 0x73726c69 then Some shift_op.Srli
    else if key == 0x73726169 then Some shift_op.Srai
    else None

abbrev pub reg_named : ℕ → Option RegOp
reg_named key =
    if key == 0x616464 then Some reg_op.Add
    else if key == 0x737562 then Some reg_op.Sub
    else if key == 0x736c6c then Some reg_op.Sll
    else if key == 0x736c74 then Some reg_op.Slt
    else if key == 0x736c7475 then Some reg_op.Sltu
    else if key == 0x786f72 then Some reg_op.Xor
    else if key == 0x73726c then Some reg_op.Srl
    else if key == 0x737261 then Some reg_op.Sra
    else if key == 0x6f72 then Some reg_op.Or
    else if key == 0x616e64 then Some reg_op.And
    else if key == 0x6d756c then Some reg_op.Mul
    else if key == 0x6d756c68 then Some reg_op.Mulh
    else if key == 0x6d756c687375 then Some reg_op.Mulhsu
    else if key == 0x6d756c6875 then Some reg_op.Mulhu
    else if key == 0x646976 then Some reg_op.Div
    else if key == 0x64697675 then Some reg_op.Divu
    else if key == 0x72656d then Some reg_op.Rem
    else if key == 0x72656d75 then Some reg_op.Remu
    else None

abbrev pub csr_named : ℕ → Option CsrOp
csr_named key =
    if key == 0x6373727277 then Some csr_op.Csrrw
    else if key == 0x6373727273 then Some csr_op.Csrrs
    else if key == 0x6373727263 then Some csr_op.Csrrc
    else if key == 0x637372727769 then Some csr_op.Csrrwi
    else if key == 0x637372727369 then Some csr_op.Csrrsi
    else if key == 0x637372726369 then Some csr_op.Csrrci
    else None

abbrev pub amo_named : ℕ → Option AmoOp
amo_named key =
    if key == 0x616d6f73776170 then Some amo_op.Swap
    else if key == 0x616d6f616464 then Some amo_op.Add
    else if key == 0x616d6f786f72 then Some amo_op.Xor
    else if key == 0x616d6f616e64 then Some amo_op.And
    else if key == 0x616d6f6f72 then Some amo_op.Or
    else if key == 0x616d6f6d696e then Some amo_op.Min
    else if key == 0x616d6f6d6178 then Some amo_op.Max
    else if key == 0x616d6f6d696e75 then Some amo_op.Minu
    else if key == 0x616d6f6d617875 then Some amo_op.Maxu
    else None

abbrev pub order_named : ℕ → Option ℕ
order_named suffix =
    if suffix == 0x77 then Some 0
    else if suffix == 0x772e726c then Some 1
    else if suffix == 0x772e6171 then Some 2
    else if suffix == 0x772e6171726c then Some 3
    else None
