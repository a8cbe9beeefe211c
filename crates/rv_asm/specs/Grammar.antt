-- The grammar of the assembler. A text is lines, each ended by a newline, that are the text of an instruction whose
-- fields are in range, or `.word 0x` and 8 lower-case digits. The empty text has no lines and no words; a last line
-- without its newline is not in the grammar.
use Rattle.std.specs.Prelude.{ℕ, ◌≡◌, ◌<◌, ◌^◌, ◌==◌, ◌⊎◌, false, List, [], ◌∷◌, ◌++◌, length, codes, Some, Result, MatchResult}
use Rattle.rv_decode.specs.declared.Instr.{Instr}
use Rattle.rv_decode.specs.Fits.{Fits}
use Rattle.rv_decode.specs.Table.{meaning}
use Rattle.rv_asm.specs.Text.{text, with_word}
use Rattle.rv_asm.specs.declared.AsmError.{AsmError}
use Rattle.rv_asm.specs.declared.AsmError.TheVariants.{BadLine, NoMemory}

-- the line is the text of an instruction whose fields are in range, and the word means that instruction
abbrev pub IsInstruction : List ℕ → ℕ → Type 0
IsInstruction line w = (i : Instr) × Fits i × (line ≡ text i) × (w < 2 ^ 32) × (meaning w ≡ Some i)

-- the line gives the word as it is: `.word 0xNNNNNNNN`
abbrev pub IsWord : List ℕ → ℕ → Type 0
IsWord line w = (w < 2 ^ 32) × (line ≡ with_word (codes ".word") w)

-- a line of the grammar, which stands for that word
abbrev pub Stands : List ℕ → ℕ → Type 0
Stands line w = IsInstruction line w ⊎ IsWord line w

-- the text is the lines of these words, each ended by a newline, and then the rest
abbrev pub Spells : List ℕ → List ℕ → List ℕ → Type 0
Spells [] rest bytes = bytes ≡ rest
Spells (w ∷ ws) rest bytes = (line : List ℕ) × (more : List ℕ) × Stands line w × (bytes ≡ line ++ (10 ∷ more)) × Spells ws rest more

-- no line of the grammar stands at the front
abbrev pub Stops : List ℕ → Type 0
Stops rest = (line more : List ℕ) (w : ℕ) → Stands line w → rest ≡ line ++ (10 ∷ more) → ⊥

-- line number n is the first that isn't in the grammar
abbrev pub FailsAt : ℕ → List ℕ → Type 0
FailsAt n bytes = (ws : List ℕ) × (rest : List ℕ) × (length ws ≡ n) × (0 < length rest) × Spells ws rest bytes × Stops rest

-- what an error tells of the text
abbrev pub FailsWith : AsmError → List ℕ → Type 0
FailsWith (BadLine n) bytes = FailsAt n bytes
FailsWith NoMemory bytes = Unit {0}

-- lines of the grammar are accepted, unless memory runs out, and for no other words; `items` are the words of a result
abbrev pub AcceptsLines : {V : Type 0} → Result V AsmError → (V → List ℕ) → List ℕ → Type 0
AcceptsLines result items bytes = (ws : List ℕ) → Spells ws [] bytes → MatchResult result (λ v. items v ≡ ws) (λ e. e ≡ NoMemory)

-- the first line that isn't in the grammar is told, unless memory runs out
abbrev pub TellsBadLine : {V : Type 0} → Result V AsmError → List ℕ → Type 0
TellsBadLine result bytes = (n : ℕ) → FailsAt n bytes → MatchResult result (λ v. ⊥) (λ e. (e ≡ BadLine n) ⊎ (e ≡ NoMemory))

-- the text of an instruction with a newline spells its word
abbrev pub TextSpells : Type 0
TextSpells = (i : Instr) (w : ℕ) → Fits i → w < 2 ^ 32 → meaning w ≡ Some i → Spells (w ∷ []) [] (text i ++ (10 ∷ []))

-- Private functions alone promise what follows.

-- no newline is in it
abbrev pub IsLine : List ℕ → Type 0
IsLine [] = Unit {0}
IsLine (b ∷ bs) = ((b == 10) ≡ false) × IsLine bs

-- the bytes are a line, a newline, and more
abbrev pub IsCut : List ℕ → List ℕ → List ℕ → Type 0
IsCut bytes line more = IsLine line × (bytes ≡ line ++ (10 ∷ more))
