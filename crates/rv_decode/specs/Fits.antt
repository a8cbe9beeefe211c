-- The instructions whose fields are in range.
use Rattle.std.specs.Prelude.{ℕ, ℤ, pos, negsuc, ◌≡◌, ◌%◌, ◌^◌, ◌<◌}
use Rattle.rv_decode.specs.declared.Instr.{Instr}
use Rattle.rv_decode.specs.declared.Instr.TheVariants.{Upper, Jal, Jalr, Branch, Load, Store, Imm, Shift, Reg, Fence, FenceI, Ecall, Ebreak, Mret, Wfi, Csr}
use Rattle.rv_decode.specs.declared.Instr.TheVariants.{LoadReserved, StoreConditional, Amo}
use Rattle.std.specs.Prelude.{bit_and, Some, ◌↔◌}
use Rattle.rv_decode.specs.Table.{meaning}

-- from -2 ^ count to 2 ^ count - 1
abbrev pub IsSigned : ℕ → ℤ → Type 0
IsSigned count (pos n) = n < 2 ^ count
IsSigned count (negsuc n) = n < 2 ^ count

abbrev pub IsEven : ℤ → Type 0
IsEven (pos n) = n % 2 ≡ 0
IsEven (negsuc n) = n % 2 ≡ 1

-- Registers and CSR numbers fit their fields, and immediates the signed ranges of their forms. Offsets of jumps
-- and branches are even. FENCE and FENCE.I keep a word of their row.
abbrev pub Fits : Instr → Type 0
Fits (Upper op rd imm) = (rd < 32) × (imm % 2 ^ 12 ≡ 0) × (imm < 2 ^ 32)
Fits (Jal rd offset) = (rd < 32) × IsSigned 20 offset × IsEven offset
Fits (Jalr rd rs1 offset) = (rd < 32) × (rs1 < 32) × IsSigned 11 offset
Fits (Branch op rs1 rs2 offset) = (rs1 < 32) × (rs2 < 32) × IsSigned 12 offset × IsEven offset
Fits (Load op rd rs1 offset) = (rd < 32) × (rs1 < 32) × IsSigned 11 offset
Fits (Store op rs1 rs2 offset) = (rs1 < 32) × (rs2 < 32) × IsSigned 11 offset
Fits (Imm op rd rs1 imm) = (rd < 32) × (rs1 < 32) × IsSigned 11 imm
Fits (Shift op rd rs1 amount) = (rd < 32) × (rs1 < 32) × (amount < 32)
Fits (Reg op rd rs1 rs2) = (rd < 32) × (rs1 < 32) × (rs2 < 32)
Fits (Fence word) = (bit_and word 0x707F ≡ 0x000F) × (word < 2 ^ 32)
Fits (FenceI word) = (bit_and word 0x707F ≡ 0x100F) × (word < 2 ^ 32)
Fits Ecall = Unit {0}
Fits Ebreak = Unit {0}
Fits Mret = Unit {0}
Fits Wfi = Unit {0}
Fits (Csr op rd rs1 number) = (rd < 32) × (rs1 < 32) × (number < 2 ^ 12)
Fits (LoadReserved rd rs1 order) = (rd < 32) × (rs1 < 32) × (order < 4)
Fits (StoreConditional rd rs1 rs2 order) = (rd < 32) × (rs1 < 32) × (rs2 < 32) × (order < 4)
Fits (Amo op rd rs1 rs2 order) = (rd < 32) × (rs1 < 32) × (rs2 < 32) × (order < 4)

-- two words below 2 ^ 32 that mean the same are the same
abbrev pub NoTwoWordsMeanTheSame : Type 0
NoTwoWordsMeanTheSame =
    (w v : ℕ) (i : Instr) → w < 2 ^ 32 → v < 2 ^ 32 → meaning w ≡ Some i → meaning v ≡ Some i → w ≡ v

-- words mean those instructions alone that fit, and all of them
abbrev pub WordsMeanWhatFits : Type 0
WordsMeanWhatFits = (i : Instr) → Fits i ↔ ((w : ℕ) × (w < 2 ^ 32) × (meaning w ≡ Some i))
