-- The code of a sample guest: a head, a loop of 64 blocks of three instructions, each of one of six kinds, and an end
-- that the last hart of all leaves by stopping the run.
use Rattle.std.specs.Prelude.{ℕ, ℤ, pos, negsuc, zero, suc, ◌+◌, ◌*◌, ◌%◌, ◌==◌, if◌then◌else◌, List, [], ◌∷◌, ◌++◌, flat_map}
use Rattle.std.specs.Int.{w32, to_le_bytes}
use Rattle.rv_decode.specs.declared.Instr.{Instr}
use Rattle.rv_decode.specs.declared.Instr.TheVariants.{Upper, Jal, Branch, Load, Store, Imm, Reg, Csr, LoadReserved, StoreConditional, Amo}
use Rattle.rv_decode.specs.declared.UpperOp.TheVariants.{Lui}
use Rattle.rv_decode.specs.declared.BranchOp.TheVariants.{Beq, Bne}
use Rattle.rv_decode.specs.declared.LoadOp.TheVariants.{Lw, Lhu}
use Rattle.rv_decode.specs.declared.StoreOp.TheVariants.{Sb, Sw}
use Rattle.rv_decode.specs.declared.ImmOp.TheVariants.{Addi}
use Rattle.rv_decode.specs.declared.RegOp.TheVariants as reg_op
use Rattle.rv_decode.specs.declared.CsrOp.TheVariants.{Csrrs}
use Rattle.rv_decode.specs.declared.AmoOp.TheVariants as amo_op
use Rattle.rv_decode.specs.Encoding.{encoded}
use Rattle.guest_maker.specs.Draws.{next, draw, after_blocks}

-- the words of instructions, as bytes
unfoldable pub word_bytes : Instr → List ℕ
word_bytes i = to_le_bytes w32 (encoded i)

abbrev pub bytes_of : List Instr → List ℕ
bytes_of instrs = flat_map word_bytes instrs

-- csrrs x5, 0xf14, x0; lui x1, 0x80002; lui x6, 0x80003; addi x7, x0, 100
unfoldable pub head : List Instr
head = Csr Csrrs 5 0 0xF14 ∷ Upper Lui 1 0x80002000 ∷ Upper Lui 6 0x80003000 ∷ Imm Addi 7 0 (pos 100) ∷ []

-- the three instructions of a kind, with an offset w and a base register b
unfoldable pub block : ℕ → ℕ → ℕ → List Instr
block kind w b =
    if kind == 0 then Load Lw 8 b (pos w) ∷ Imm Addi 8 8 (pos 1) ∷ Store Sw b 8 (pos w) ∷ []
    else if kind == 1 then Imm Addi 9 b (pos w) ∷ Amo amo_op.Add 10 9 5 0 ∷ Reg reg_op.Xor 11 11 10 ∷ []
    else if kind == 2 then Imm Addi 9 b (pos w) ∷ LoadReserved 12 9 0 ∷ StoreConditional 13 9 5 0 ∷ []
    else if kind == 3 then Load Lw 14 b (pos w) ∷ Reg reg_op.Mul 11 11 14 ∷ Reg reg_op.Add 11 11 5 ∷ []
    else if kind == 4 then Imm Addi 15 5 (pos w) ∷ Reg reg_op.Divu 16 11 15 ∷ Reg reg_op.Xor 11 11 16 ∷ []
    else Store Sb b 11 (pos w) ∷ Load Lhu 17 b (pos w) ∷ Reg reg_op.Add 11 11 17 ∷ []

unfoldable pub base : ℕ → ℕ
base n = if n % 2 == 0 then 1 else 6

-- the block whose three draws come next: its kind, its offset and its base register
unfoldable pub drawn_block : ℕ → List Instr
drawn_block s = block (draw (next s) % 6) (4 * (draw (next (next s)) % 64)) (base (draw (next (next (next s)))))

-- so many blocks
unfoldable pub blocks : ℕ → ℕ → List Instr
blocks number zero = []
blocks number (suc n) = blocks number n ++ drawn_block (after_blocks number n)

-- the loop goes on until its count, x7, is 0
unfoldable pub loop_end : List Instr
loop_end = Imm Addi 7 7 (negsuc 0) ∷ Branch Beq 7 0 (pos 8) ∷ Jal 0 (negsuc 775) ∷ []

-- each hart adds 1 to the word at 0x80004000; the one that makes it the number of harts stores x11 to STOP, the others stay
unfoldable pub finish : ℕ → List Instr
finish harts =
    Upper Lui 18 0x80004000 ∷ Imm Addi 19 0 (pos 1) ∷ Amo amo_op.Add 20 18 19 0
    ∷ Imm Addi 20 20 (pos 1) ∷ Imm Addi 21 0 (pos harts) ∷ Branch Bne 20 21 (pos 12)
    ∷ Upper Lui 22 0x10000000 ∷ Store Sw 22 11 (pos 8) ∷ Jal 0 (pos 0) ∷ []

abbrev pub code : ℕ → ℕ → List ℕ
code number harts = bytes_of head ++ (bytes_of (blocks number 64) ++ (bytes_of loop_end ++ bytes_of (finish harts)))
