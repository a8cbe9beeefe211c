-- Causes of traps by name, after the table of mcause in the RISC-V Privileged manual, chapter "Machine-Level ISA".
use Rattle.std.specs.Prelude.{ℕ, ◌+◌}

-- exceptions: a jump or branch to a misaligned target, a fetch outside memory, no instruction, EBREAK
abbrev pub misaligned_target : ℕ
misaligned_target = 0

abbrev pub fetch_fault : ℕ
fetch_fault = 1

abbrev pub illegal_instruction : ℕ
illegal_instruction = 2

abbrev pub breakpoint : ℕ
breakpoint = 3

-- a misaligned load or LR, and one to no place of the board; the same of a store, SC or AMO; ECALL from machine mode
abbrev pub misaligned_load : ℕ
misaligned_load = 4

abbrev pub load_fault : ℕ
load_fault = 5

abbrev pub misaligned_store : ℕ
misaligned_store = 6

abbrev pub store_fault : ℕ
store_fault = 7

abbrev pub environment_call : ℕ
environment_call = 11

-- interrupts, by their bit in mie and mip
abbrev pub software_bit : ℕ
software_bit = 3

abbrev pub timer_bit : ℕ
timer_bit = 7

abbrev pub external_bit : ℕ
external_bit = 11

-- the cause of an interrupt has bit 31 set, and below it the number of its bit
abbrev pub interrupt_cause : ℕ → ℕ
interrupt_cause bit = 0x80000000 + bit
