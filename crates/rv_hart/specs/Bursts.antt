-- Moves that read no control register and change none but the counters, so that these can be counted together.
use Rattle.std.specs.Prelude.{ℕ, Bool, true, false, if◌then◌else◌, Option, Some, None}
use Rattle.rv_words.specs.Addresses.{in_memory}
use Rattle.rv_decode.specs.declared.Instr.{Instr}
use Rattle.rv_decode.specs.declared.Instr.TheVariants as instr
use Rattle.rv_csr.specs.Traps.{counted_times}
use Rattle.rv_hart.specs.State.{Hart}
use Rattle.rv_hart.specs.Moves.{with_csrs}
use Rattle.rv_hart.specs.declared.effect.Effect.{Effect}
use Rattle.rv_hart.specs.declared.effect.Effect.TheVariants.{WritesCsr, Returns, Traps}

-- the instruction reads a control register
abbrev pub reads_csr : Instr → Bool
reads_csr (instr.Csr op rd rs1 number) = true
reads_csr other = false

-- the effect changes no control register but the counters
abbrev pub is_quiet : Effect → Bool
is_quiet (WritesCsr rd old number value) = false
is_quiet Returns = false
is_quiet (Traps cause value) = false
is_quiet other = true

-- where the next move fetches from while no interrupt is pending
abbrev pub fetch_place : Hart → Option ℕ
fetch_place h = if in_memory h.pages h.pc then Some h.pc else None

-- the hart with so many moves counted that it made uncounted
abbrev pub with_counted : ℕ → Hart → Hart
with_counted n h = with_csrs (counted_times n h.csrs) h
