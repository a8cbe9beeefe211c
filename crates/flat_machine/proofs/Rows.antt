-- Runs computed on the definitions: short programs of known result, on whole pages.
use Rattle.std.specs.Prelude.{ℕ, ◌≡◌, ◌*◌, ◌-◌, List, [], ◌∷◌, ◌++◌, Option, Some, None, replicate, length, slice_get, map, zero, suc, refl}
use Rattle.std.specs.Int.{w32, to_le_bytes}
use Rattle.std.specs.Option.{option_map, option_and_then}
use Rattle.rv_words.specs.Memory.{word_at}
use Rattle.rv_words.specs.declared.shared.Input.TheVariants.{Nothing, Empty, Byte}
use Rattle.rv_csr.specs.Registers.{mstatus, mip}
use Rattle.rv_decode.specs.Table.{meaning, table}
use Rattle.rv_hart.specs.State.{Hart}
use Rattle.rv_hart.specs.Effects.{reg, instr_effect}
use Rattle.rv_words.specs.Limits.{page_bytes}
use Rattle.elf_image.specs.Image.{Image}
use Rattle.flat_machine.specs.State.{FlatState, flat_at_start}
use Rattle.flat_machine.specs.Runs.{flat, story}
use Rattle.flat_machine.specs.declared.results.Step.{Step}
use Rattle.flat_machine.specs.declared.act.Act.{Act}
use Rattle.flat_machine.specs.declared.act.Act.TheVariants.{Run, Touch, Poll, Lose}

abbrev bytes_of : List ℕ → List ℕ
bytes_of [] = []
bytes_of (w ∷ ws) = to_le_bytes w32 w ++ bytes_of ws

-- an image of some words at the beginning of memory
abbrev image_of : ℕ → List ℕ → Image
image_of pages words =
    record { entry = 0x80000000; pages = pages; unit = page_bytes; bytes = bytes_of words ++ replicate (page_bytes * pages - 4 * length words) 0 }

abbrev runs : ℕ → ℕ → List Act
runs h zero = []
runs h (suc n) = Run h ∷ runs h n

abbrev hart_after : ℕ → Option FlatState → Option Hart
hart_after h o = option_and_then (λ (s : FlatState). slice_get s.harts h) o

-- pc, mstatus, mie, mtvec, mscratch, mepc, mcause, mtval, mip, mcycle, minstret
abbrev csrs_shown : Hart → List ℕ
csrs_shown x =
    x.pc ∷ mstatus x.csrs ∷ x.csrs.mie ∷ x.csrs.mtvec ∷ x.csrs.mscratch ∷ x.csrs.mepc ∷ x.csrs.mcause ∷ x.csrs.mtval ∷ mip x.csrs ∷ x.csrs.mcycle ∷
    x.csrs.minstret ∷ []

abbrev shown : ℕ → Option FlatState → Option (List ℕ)
shown h o = option_map csrs_shown (hart_after h o)

abbrev regs_shown : List ℕ → ℕ → Option FlatState → Option (List ℕ)
regs_shown numbers h o = option_map (λ x. map (reg x) numbers) (hart_after h o)

abbrev reserved_of : ℕ → Option FlatState → Option ℕ
reserved_of h o = option_and_then (λ (x : Hart). x.reserved) (hart_after h o)

abbrev stop_of : Option FlatState → Option ℕ
stop_of o = option_and_then (λ (s : FlatState). s.devices.stop) o

-- lui x1, 0x10000; addi x2, x0, 7; sw x2, 8(x1): a store to STOP
abbrev smallest : List ℕ
smallest = 0x100000B7 ∷ 0x00700113 ∷ 0x0020A423 ∷ []

abbrev smallest_acts : List Act
smallest_acts = Poll 0 5 ∷ Run 0 ∷ Run 0 ∷ Touch 0 Nothing ∷ []

pub smallest_run : (stop_of (flat (image_of 1 smallest) 1 smallest_acts) ≡ Some 7)
    × (shown 0 (flat (image_of 1 smallest) 1 smallest_acts) ≡ Some (0x8000000C ∷ 0x1800 ∷ 0 ∷ 0 ∷ 0 ∷ 0 ∷ 0 ∷ 0 ∷ 0 ∷ 3 ∷ 3 ∷ []))
unfolding meaning table instr_effect
smallest_run = (refl, refl)

-- what each of its moves wrote, and the word that it fetched
pub smallest_story : map {B = Option ℕ × Option (ℕ × ℕ)} (λ (step : Step). (step.word, step.wrote))
    (story 0 (flat_at_start (image_of 1 smallest) 1) smallest_acts)
    ≡ (Some 0x100000B7, Some (1, 0x10000000)) ∷ (Some 0x00700113, Some (2, 7)) ∷ (Some 0x0020A423, None) ∷ []
unfolding meaning table instr_effect
smallest_story = refl

-- an empty image: the first move traps with cause 2, the second with cause 1 at pc 0
pub empty_image : shown 0 (flat (image_of 1 []) 1 (Poll 0 5 ∷ runs 0 2)) ≡ Some (0 ∷ 0x1800 ∷ 0 ∷ 0 ∷ 0 ∷ 0 ∷ 1 ∷ 0 ∷ 0 ∷ 2 ∷ 0 ∷ [])
unfolding meaning table instr_effect
empty_image = refl

-- addi x1, x0, 128; csrrw x0, mie, x1; csrrsi x0, mstatus, 8: the timer interrupt, with the clock at its end
pub timer_interrupt : shown 0 (flat (image_of 1 (0x08000093 ∷ 0x30409073 ∷ 0x30046073 ∷ [])) 1 (Poll 0 18446744073709551615 ∷ runs 0 4))
    ≡ Some (0 ∷ 0x1880 ∷ 0x80 ∷ 0 ∷ 0 ∷ 0x8000000C ∷ 0x80000007 ∷ 0 ∷ 0x80 ∷ 4 ∷ 3 ∷ [])
unfolding meaning table instr_effect
timer_interrupt = refl

-- a hart sets its own msip and clears it again, and reads mip after each
pub own_software_line : regs_shown (3 ∷ 4 ∷ []) 0
    (flat (image_of 1 (0x020000B7 ∷ 0x00100113 ∷ 0x0020A023 ∷ 0x344021F3 ∷ 0x0000A023 ∷ 0x34402273 ∷ [])) 1
    (Poll 0 5 ∷ runs 0 2 ++ Touch 0 Nothing ∷ Run 0 ∷ Touch 0 Nothing ∷ Run 0 ∷ []))
    ≡ Some (8 ∷ 0 ∷ [])
unfolding meaning table instr_effect
own_software_line = refl

-- an SC to another word fails and ends the reservation, so that the next SC fails too, and both words stay 0
abbrev two_scs : Option FlatState
two_scs = flat (image_of 2 (0x800010B7 ∷ 0x1000A12F ∷ 0x00408213 ∷ 0x181221AF ∷ 0x1810A2AF ∷ [])) 1 (Poll 0 5 ∷ runs 0 5)

pub two_conditionals : (regs_shown (3 ∷ 5 ∷ []) 0 two_scs ≡ Some (1 ∷ 1 ∷ []))
    × (option_map (λ (s : FlatState). word_at s.memory 0x1000) two_scs ≡ Some 0)
    × (option_map (λ (s : FlatState). word_at s.memory 0x1004) two_scs ≡ Some 0)
    × (option_map (λ (x : Hart). x.pc) (hart_after 0 two_scs) ≡ Some 0x80000014)
unfolding meaning table instr_effect
two_conditionals = (refl, refl, refl, refl)

-- three loads of RX, that find nothing, a byte, and nothing, and a store of 0 to STOP
abbrev console_input : Option FlatState
console_input =
    flat (image_of 1 (0x100000B7 ∷ 0x0000A103 ∷ 0x0000A183 ∷ 0x0000A203 ∷ 0x0000A423 ∷ [])) 1
    (Poll 0 5 ∷ Run 0 ∷ Touch 0 Empty ∷ Touch 0 (Byte 0x41) ∷ Touch 0 Empty ∷ Touch 0 Nothing ∷ [])

pub console_row : (regs_shown (2 ∷ 3 ∷ 4 ∷ []) 0 console_input ≡ Some (0xFFFFFFFF ∷ 0x41 ∷ 0xFFFFFFFF ∷ [])) × (stop_of console_input ≡ Some 0)
unfolding meaning table instr_effect
console_row = (refl, refl)

-- both harts reserve the word at 0x80001000; then hart 1 stores a byte, or adds to a word
abbrev reserve_both : List ℕ → Option FlatState
reserve_both words = flat (image_of 2 (0x800010B7 ∷ 0x1000A12F ∷ words)) 2 (runs 0 2 ++ runs 1 3)

-- sb x0, 3(x1) and amoadd.w x0, x2, (x1) end hart 0's reservation and leave hart 1's own; sb x0, 4(x1) leaves both
pub reservations : (reserved_of 0 (reserve_both (0x000081A3 ∷ [])) ≡ None)
    × (reserved_of 1 (reserve_both (0x000081A3 ∷ [])) ≡ Some 0x80001000)
    × (reserved_of 0 (reserve_both (0x0020A02F ∷ [])) ≡ None)
    × (reserved_of 1 (reserve_both (0x0020A02F ∷ [])) ≡ Some 0x80001000)
    × (reserved_of 0 (reserve_both (0x00008223 ∷ [])) ≡ Some 0x80001000)
unfolding meaning table instr_effect
reservations = (refl, refl, refl, refl, refl)

-- hart 0 stores to the msip of hart 1, which enters the software interrupt, ends it by a store of its own, and returns
abbrev interrupt_words : List ℕ
interrupt_words =
    0xF14022F3 ∷ 0x00029A63 ∷ 0x020000B7 ∷ 0x00100113 ∷ 0x0020A223 ∷ 0x0000006F ∷ 0x800000B7 ∷ 0x10108093 ∷ 0x30509073 ∷ 0x30445073 ∷ 0x30046073 ∷ 0x0000006F
    ∷ []
    ++ replicate 55 0 ++ 0x020000B7 ∷ 0x0000A223 ∷ 0x30200073 ∷ []

pub software_interrupt : shown 1 (flat (image_of 1 interrupt_words) 2
    (Poll 0 5 ∷ runs 0 4 ++ Touch 0 Nothing ∷ Poll 1 5 ∷ runs 1 9 ++ Touch 1 Nothing ∷ runs 1 2))
    ≡ Some (0x8000002C ∷ 0x1888 ∷ 8 ∷ 0x80000101 ∷ 0 ∷ 0x8000002C ∷ 0x80000003 ∷ 0 ∷ 0 ∷ 12 ∷ 11 ∷ [])
unfolding meaning table instr_effect
software_interrupt = refl

-- acts whose condition fails: a Poll below mtime, a Poll and a Touch after stop, a Run of a device access, a Touch of another
-- move, an input that doesn't suit, and a hart that isn't there
pub refused : (flat (image_of 1 smallest) 1 (Poll 0 5 ∷ Poll 0 4 ∷ []) ≡ None)
    × (flat (image_of 1 smallest) 1 (smallest_acts ++ Poll 0 5 ∷ []) ≡ None)
    × (flat (image_of 1 (smallest ++ 0x0020A423 ∷ [])) 1 (smallest_acts ++ Touch 0 Nothing ∷ []) ≡ None)
    × (flat (image_of 1 smallest) 1 (runs 0 3) ≡ None)
    × (flat (image_of 1 smallest) 1 (Touch 0 Nothing ∷ []) ≡ None)
    × (flat (image_of 1 smallest) 1 (runs 0 2 ++ Touch 0 Empty ∷ []) ≡ None)
    × (flat (image_of 1 smallest) 1 (Run 1 ∷ []) ≡ None)
    × (flat (image_of 1 smallest) 1 (Lose 1 ∷ []) ≡ None)
unfolding meaning table instr_effect
refused = (refl, refl, refl, refl, refl, refl, refl, refl)
