-- Start, interrupts, trap entry, MRET and counting, after the RISC-V Privileged manual, chapter "Machine-Level ISA". The
-- reset values, and that mcycle counts moves, are the board's own rules (docs/board.md).
use Rattle.std.specs.Prelude.{ℕ, zero, suc, ◌+◌, ◌*◌, ◌/◌, ◌%◌, ◌^◌, ◌==◌, ◌&&◌, ◌||◌, not, Bool, true, false, if◌then◌else◌, Option, Some, None, List, [], ◌∷◌}
use Rattle.std.specs.List.{find}
use Rattle.std.specs.Option.{option_map}
use Rattle.rv_words.specs.Words.{has_bit, word_add}
use Rattle.rv_csr.specs.Causes.{software_bit, timer_bit, external_bit, interrupt_cause}
use Rattle.rv_csr.specs.State.{Csrs}
use Rattle.rv_csr.specs.Registers.{mip}

abbrev pub csrs_at_start : ℕ → Csrs
csrs_at_start hart =
    record {
      hart = hart;
      status_mie = false;
      status_mpie = false;
      mie = 0;
      mtvec = 0;
      mscratch = 0;
      mepc = 0;
      mcause = 0;
      mtval = 0;
      software_line = false;
      timer_line = false;
      mcycle = 0;
      minstret = 0;
    }

-- the interrupts by their bit in mie and mip, in the order in which they are entered: external, software, timer
abbrev pub interrupts : List ℕ
interrupts = external_bit ∷ software_bit ∷ timer_bit ∷ []

abbrev pub is_raised : Csrs → ℕ → Bool
is_raised s k = has_bit s.mie k && has_bit (mip s) k

-- the cause of the interrupt that is entered next
abbrev pub pending : Csrs → Option ℕ
pending s = if s.status_mie then option_map interrupt_cause (find (is_raised s) interrupts) else None

-- where a trap goes: the base of mtvec, or an interrupt's own place behind it where bit 0 of mtvec is set
abbrev pub trap_target : ℕ → ℕ → ℕ
trap_target mtvec cause =
    if has_bit cause 31 && has_bit mtvec 0 then word_add (mtvec / 4 * 4) (4 * (cause % 2 ^ 31)) else mtvec / 4 * 4

-- the registers after the entry of a trap at an address
abbrev pub trap_entered : ℕ → ℕ → ℕ → Csrs → Csrs
trap_entered cause at value s =
    record s { mepc = at; mcause = cause; mtval = value; status_mpie = s.status_mie; status_mie = false }

-- the registers after MRET
abbrev pub trap_left : Csrs → Csrs
trap_left s = record s { status_mie = s.status_mpie; status_mpie = true }

-- a write of that number is one of the counter with these two halves
abbrev pub is_half : Option ℕ → ℕ → ℕ → Bool
is_half None low high = false
is_half (Some n) low high = n == low || n == high

-- the counters after a move that wrote that number: mcycle counts moves, minstret those that retired an instruction, and
-- a write to either half stands in place of that move's increment of the whole counter
abbrev pub counted : Bool → Option ℕ → Csrs → Csrs
counted retired wrote s =
    record s {
      mcycle = if is_half wrote 0xB00 0xB80 then s.mcycle else (s.mcycle + 1) % 2 ^ 64;
      minstret = if not retired || is_half wrote 0xB02 0xB82 then s.minstret else (s.minstret + 1) % 2 ^ 64;
    }

-- the registers after so many moves that each retired and wrote no counter
abbrev pub counted_times : ℕ → Csrs → Csrs
counted_times zero s = s
counted_times (suc n) s = counted true None (counted_times n s)

abbrev pub with_lines : ℕ → Csrs → Csrs
with_lines lines s = record s { software_line = has_bit lines 0; timer_line = has_bit lines 1 }
