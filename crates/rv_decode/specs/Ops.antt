-- The operation of a form, by its fields, where the opcode is known. Private functions alone promise this; what
-- `decode` promises is by the table.
use Rattle.std.specs.Prelude.{ℕ, ◌==◌, ◌&&◌, if◌then◌else◌, Option, Some, None}
use Rattle.rv_decode.specs.declared.LoadOp.{LoadOp}
use Rattle.rv_decode.specs.declared.LoadOp.TheVariants as load_op
use Rattle.rv_decode.specs.declared.BranchOp.{BranchOp}
use Rattle.rv_decode.specs.declared.BranchOp.TheVariants as branch_op
use Rattle.rv_decode.specs.declared.StoreOp.{StoreOp}
use Rattle.rv_decode.specs.declared.StoreOp.TheVariants as store_op
use Rattle.rv_decode.specs.declared.ImmOp.{ImmOp}
use Rattle.rv_decode.specs.declared.ImmOp.TheVariants as imm_op
use Rattle.rv_decode.specs.declared.CsrOp.{CsrOp}
use Rattle.rv_decode.specs.declared.CsrOp.TheVariants as csr_op
use Rattle.rv_decode.specs.declared.AmoOp.{AmoOp}
use Rattle.rv_decode.specs.declared.AmoOp.TheVariants as amo_op
use Rattle.rv_decode.specs.declared.RegOp.{RegOp}
use Rattle.rv_decode.specs.declared.RegOp.TheVariants as reg_op
use Rattle.rv_decode.specs.declared.ShiftOp.{ShiftOp}
use Rattle.rv_decode.specs.declared.ShiftOp.TheVariants as shift_op

abbrev pub load_op_of : ℕ → Option LoadOp
load_op_of f =
    if f == 0 then Some load_op.Lb
    else if f == 1 then Some load_op.Lh
    else if f == 2 then Some load_op.Lw
    else if f == 4 then Some load_op.Lbu
    else if f == 5 then Some load_op.Lhu
    else None

abbrev pub branch_op_of : ℕ → Option BranchOp
branch_op_of f =
    if f == 0 then Some branch_op.Beq
    else if f == 1 then Some branch_op.Bne
    else if f == 4 then Some branch_op.Blt
    else if f == 5 then Some branch_op.Bge
    else if f == 6 then Some branch_op.Bltu
    else if f == 7 then Some branch_op.Bgeu
    else None

abbrev pub store_op_of : ℕ → Option StoreOp
store_op_of f =
    if f == 0 then Some store_op.Sb
    else if f == 1 then Some store_op.Sh
    else if f == 2 then Some store_op.Sw
    else None

abbrev pub imm_op_of : ℕ → Option ImmOp
imm_op_of f =
    if f == 0 then Some imm_op.Addi
    else if f == 2 then Some imm_op.Slti
    else if f == 3 then Some imm_op.Sltiu
    else if f == 4 then Some imm_op.Xori
    else if f == 6 then Some imm_op.Ori
    else if f == 7 then Some imm_op.Andi
    else None

abbrev pub csr_op_of : ℕ → Option CsrOp
csr_op_of f =
    if f == 1 then Some csr_op.Csrrw
    else if f == 2 then Some csr_op.Csrrs
    else if f == 3 then Some csr_op.Csrrc
    else if f == 5 then Some csr_op.Csrrwi
    else if f == 6 then Some csr_op.Csrrsi
    else if f == 7 then Some csr_op.Csrrci
    else None

abbrev pub amo_op_of : ℕ → Option AmoOp
amo_op_of f =
    if f == 1 then Some amo_op.Swap
    else if f == 0 then Some amo_op.Add
    else if f == 4 then Some amo_op.Xor
    else if f == 12 then Some amo_op.And
    else if f == 8 then Some amo_op.Or
    else if f == 16 then Some amo_op.Min
    else if f == 20 then Some amo_op.Max
    else if f == 24 then Some amo_op.Minu
    else if f == 28 then Some amo_op.Maxu
    else None

abbrev pub reg_op_of : ℕ → ℕ → Option RegOp
reg_op_of top f =
    if top == 0 && f == 0 then Some reg_op.Add
    else if top == 32 && f == 0 then Some reg_op.Sub
    else if top == 0 && f == 1 then Some reg_op.Sll
    else if top == 0 && f == 2 then Some reg_op.Slt
    else if top == 0 && f == 3 then Some reg_op.Sltu
    else if top == 0 && f == 4 then Some reg_op.Xor
    else if top == 0 && f == 5 then Some reg_op.Srl
    else if top == 32 && f == 5 then Some reg_op.Sra
    else if top == 0 && f == 6 then Some reg_op.Or
    else if top == 0 && f == 7 then Some reg_op.And
    else if top == 1 && f == 0 then Some reg_op.Mul
    else if top == 1 && f == 1 then Some reg_op.Mulh
    else if top == 1 && f == 2 then Some reg_op.Mulhsu
    else if top == 1 && f == 3 then Some reg_op.Mulhu
    else if top == 1 && f == 4 then Some reg_op.Div
    else if top == 1 && f == 5 then Some reg_op.Divu
    else if top == 1 && f == 6 then Some reg_op.Rem
    else if top == 1 && f == 7 then Some reg_op.Remu
    else None

abbrev pub shift_op_of : ℕ → ℕ → Option ShiftOp
shift_op_of top f =
    if top == 0 && f == 1 then Some shift_op.Slli
    else if top == 0 && f == 5 then Some shift_op.Srli
    else if top == 32 && f == 5 then Some shift_op.Srai
    else None
