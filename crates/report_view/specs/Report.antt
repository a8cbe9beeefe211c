-- The report of a run: what it ended with, as lines of text. Words are 8 lower-case hexadecimal digits, digests 64,
-- and all other numbers decimal (docs/command-line.md).
use Rattle.std.specs.Prelude.{ℕ, ◌∷◌, ◌++◌, [], List, length, codes, Option, unwrap_or}
use Rattle.std.specs.List.{zip, enumerate_from, flat_map, range_with_len}
use Rattle.std.specs.Fmt.{decimal}
use Rattle.std.specs.Int.{w32, to_be_bytes}
use Rattle.hex.specs.Hex.{encode_lower}
use Rattle.sha2.specs.Sha256.{sha256}
use Rattle.rv_words.specs.declared.shared.Cause.{Cause}
use Rattle.rv_words.specs.declared.shared.Cause.TheVariants.{Stop, Limit, Full, Fault, Cut}
use Rattle.rv_csr.specs.Registers.{csr_read}
use Rattle.rv_hart.specs.State.{Hart}
use Rattle.rv_hart.specs.Effects.{reg}
use Rattle.flat_machine.specs.declared.results.Final.{Final}

unfoldable pub word : ℕ → List ℕ
word n = encode_lower (to_be_bytes w32 n)

-- a word behind a blank
unfoldable pub spaced : ℕ → List ℕ
spaced n = codes " " ++ word n

-- SHA-256 (FIPS 180-4)
unfoldable pub digest : List ℕ → List ℕ
digest bytes = encode_lower (sha256 bytes)

abbrev pub newline : List ℕ
newline = codes "\n"

abbrev pub cause_text : Cause → Option ℕ → List ℕ
cause_text Stop stop = codes "stop " ++ decimal (unwrap_or stop 0)
cause_text Limit stop = codes "limit"
cause_text Full stop = codes "full"
cause_text Fault stop = codes "fault"
cause_text Cut stop = codes "cut"

unfoldable pub cause_line : Cause → Option ℕ → List ℕ
cause_line cause stop = codes "cause " ++ (cause_text cause stop ++ newline)

-- what a register of the hart reads, by its number
unfoldable pub csr : Hart → ℕ → ℕ
csr x number = unwrap_or (csr_read number x.csrs) 0

unfoldable pub hart_line : ℕ → ℕ → Hart → List ℕ
hart_line h count x = codes "hart " ++ (decimal h ++ (codes " count " ++ (decimal count ++ (codes " pc " ++ (word x.pc ++ newline)))))

unfoldable pub spaced_registers : Hart → List ℕ → List ℕ
spaced_registers x numbers = flat_map (λ n. spaced (reg x n)) numbers

-- the eight registers from this one on
unfoldable pub register_line : Hart → ℕ → List ℕ
register_line x first = codes "x" ++ (decimal first ++ (spaced_registers x (range_with_len first 8) ++ newline))

-- mstatus, mie, mtvec, mscratch, mepc, mcause, mtval, mip
abbrev pub csr_numbers : List ℕ
csr_numbers = 0x300 ∷ 0x304 ∷ 0x305 ∷ 0x340 ∷ 0x341 ∷ 0x342 ∷ 0x343 ∷ 0x344 ∷ []

abbrev pub spaced_csrs : Hart → List ℕ → List ℕ
spaced_csrs x numbers = flat_map (λ n. spaced (csr x n)) numbers

unfoldable pub csr_line : Hart → List ℕ
csr_line x = codes "csr" ++ (spaced_csrs x csr_numbers ++ newline)

-- mcycleh and mcycle, minstreth and minstret: each counter in 16 digits
unfoldable pub counter_line : Hart → List ℕ
counter_line x = codes "counters " ++ (word (csr x 0xB80) ++ (word (csr x 0xB00) ++ (codes " " ++ (word (csr x 0xB82) ++ (word (csr x 0xB02) ++ newline)))))

abbrev pub register_lines : Hart → List ℕ
register_lines x = register_line x 0 ++ (register_line x 8 ++ (register_line x 16 ++ register_line x 24))

unfoldable pub hart_lines : ℕ → ℕ → Hart → List ℕ
hart_lines h count x = hart_line h count x ++ (register_lines x ++ (csr_line x ++ counter_line x))

-- of all harts, each with its number and its count
abbrev pub lines_of_harts : List Hart → List ℕ → List ℕ
lines_of_harts harts counts = flat_map (λ x. hart_lines x.0 x.1.1 x.1.0) (enumerate_from 0 (zip harts counts))

abbrev pub time_line : ℕ → List ℕ
time_line time = codes "time " ++ (decimal time ++ newline)

-- how many bytes were sent, and their digest
abbrev pub console_line : List ℕ → List ℕ
console_line sent = codes "console " ++ (decimal (length sent) ++ (codes " " ++ (digest sent ++ newline)))

abbrev pub memory_line : List ℕ → List ℕ
memory_line memory = codes "memory " ++ (digest memory ++ newline)

abbrev pub report : Final → List ℕ
report f = cause_line f.cause f.stop ++ (lines_of_harts f.harts f.counts ++ (time_line f.time ++ (console_line f.sent ++ memory_line f.memory)))
