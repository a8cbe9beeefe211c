-- A hart's moves as lines of text: how many moves were before, the pc before, the word, and then the instruction and the
-- register that it set, or the trap or interrupt. Words are 8 lower-case hexadecimal digits (docs/trace.md).
use Rattle.std.specs.Prelude.{ℕ, ◌+◌, ◌%◌, ◌^◌, ◌||◌, nat_lt, if◌then◌else◌, is_some, Bool, List, [], ◌++◌, flat_map, codes, Option, Some, None}
use Rattle.std.specs.List.{enumerate_from}
use Rattle.std.specs.Fmt.{decimal}
use Rattle.rv_decode.specs.declared.Instr.{Instr}
use Rattle.rv_decode.specs.Table.{meaning}
use Rattle.rv_asm.specs.Text.{text}
use Rattle.flat_machine.specs.declared.results.Step.{Step}
use Rattle.report_view.specs.Report.{word, newline}

-- the instruction that was fetched
abbrev pub instruction_of : Option ℕ → Option Instr
instruction_of None = None
instruction_of (Some w) = meaning w

-- a move that can be told: it trapped, or its word is an instruction
abbrev pub is_told : Step → Bool
is_told step = is_some step.cause || is_some (instruction_of step.word)

-- the word, where one was fetched
unfoldable pub fetched_text : Option ℕ → List ℕ
fetched_text None = codes "--------"
fetched_text (Some w) = word w

-- a trap by its cause, whose top bit tells an interrupt from an exception
unfoldable pub trap_text : ℕ → List ℕ
trap_text cause =
    if nat_lt cause (2 ^ 31) then codes "trap " ++ decimal cause
    else codes "interrupt " ++ decimal (cause % 2 ^ 31)

abbrev pub meaning_text : Option Instr → List ℕ
meaning_text None = []
meaning_text (Some i) = text i

unfoldable pub instruction_text : Option ℕ → List ℕ
instruction_text w = meaning_text (instruction_of w)

-- a trap, or the instruction that retired
unfoldable pub move_text : Option ℕ → Option ℕ → List ℕ
move_text (Some cause) w = trap_text cause
move_text None w = instruction_text w

-- ` xR=V`, where the move set a register
unfoldable pub set_text : Option (ℕ × ℕ) → List ℕ
set_text None = []
set_text (Some wrote) = codes " x" ++ (decimal wrote.0 ++ (codes "=" ++ word wrote.1))

-- what a line begins with: the count and the pc before the move, and the word
unfoldable pub place_text : ℕ → ℕ → Option ℕ → List ℕ
place_text count pc w = decimal count ++ (codes " " ++ (word pc ++ (codes " " ++ (fetched_text w ++ codes " "))))

unfoldable pub step_line : ℕ → Step → List ℕ
step_line count step = place_text count step.pc step.word ++ (move_text step.cause step.word ++ (set_text step.wrote ++ newline))

-- the moves of a hart from a count on
abbrev pub trace : ℕ → List Step → List ℕ
trace from steps = flat_map (λ x. step_line (from + x.0) x.1) (enumerate_from 0 steps)
