-- One pass over a line keeps its name and its numbers, and they name the one line of the grammar that it can be.
-- Private functions alone promise this; the grammar knows nothing of it.
use Rattle.std.specs.Prelude.{◌≡◌, ◌<◌, List, codes, ℕ, ℤ, pos, ◌+◌, ◌*◌, ◌%◌, ◌^◌, ◌==◌, ◌||◌, ◌-ℤ◌, nat_lt, if◌then◌else◌, Bool, true, false, Option, Some}
use Rattle.std.specs.Prelude.{None}
use Rattle.std.specs.Option.{option_map, option_or}
use Rattle.std.specs.Char.{digit_value}
use Rattle.rv_decode.specs.declared.Instr.TheVariants.{Upper, Jal, Jalr, Branch, Load, Store, Imm, Shift, Reg, Fence, FenceI, Ecall, Ebreak, Mret, Wfi, Csr}
use Rattle.rv_decode.specs.declared.Instr.TheVariants.{LoadReserved, StoreConditional, Amo}
use Rattle.rv_asm.specs.Keys.{upper_named, branch_named, load_named, store_named, imm_named, shift_named, reg_named, csr_named, amo_named, order_named}
use Rattle.rv_decode.specs.Fits.{Fits}
use Rattle.rv_decode.specs.Table.{meaning}
use Rattle.rv_asm.specs.Text.{text, with_word}
use Rattle.rv_asm.specs.declared.scan.Line.{Line}
use Rattle.rv_asm.specs.declared.scan.Line.TheVariants.{Text, Word}
use Rattle.rv_asm.specs.declared.scan.Phase.{Phase}
use Rattle.rv_asm.specs.declared.scan.Phase.TheVariants.{Name, Suffix, Operands}
use Rattle.rv_asm.specs.declared.scan.Scan.{Scan}

abbrev pub start : Scan
start =
    record {
      phase = Name;
      key = 0;
      suffix = 0;
      third = 0;
      second = 0;
      previous = 0;
      previous_hex = 0;
      previous_minus = false;
      current = 0;
      current_hex = 0;
      current_minus = false;
    }

abbrev pub named : Scan → ℕ → Scan
named s b =
    if b == 46 then record s { phase = Suffix }
    else if b == 32 then record s { phase = Operands }
    else record s { key = (s.key * 256 + b) % 2 ^ 64 }

abbrev pub suffixed : Scan → ℕ → Scan
suffixed s b =
    if b == 32 then record s { phase = Operands }
    else record s { suffix = (s.suffix * 256 + b) % 2 ^ 64 }

-- the number that is complete makes room for the next
abbrev pub pushed : Scan → Scan
pushed s =
    record s {
      third = s.second;
      second = s.previous;
      previous = s.current;
      previous_hex = s.current_hex;
      previous_minus = s.current_minus;
      current = 0;
      current_hex = 0;
      current_minus = false;
    }

abbrev pub ten : ℕ → ℕ → ℕ
ten n b = (n * 10 + digit_value b) % 2 ^ 32

abbrev pub sixteen : ℕ → ℕ → ℕ
sixteen n b = (n * 16 + digit_value b) % 2 ^ 32

abbrev pub operand : Scan → ℕ → Scan
operand s b =
    if nat_lt (digit_value b) 16 then record s { current = ten s.current b; current_hex = sixteen s.current_hex b }
    else if b == 44 || b == 40 then pushed s
    else if b == 45 then record s { current_minus = true }
    else if b == 120 then record s { current = 0; current_hex = 0 }
    else s

abbrev pub in_phase : Phase → Scan → ℕ → Scan
in_phase Name s b = named s b
in_phase Suffix s b = suffixed s b
in_phase Operands s b = operand s b

abbrev pub step : Scan → ℕ → Scan
step s b = in_phase s.phase s b

-- a number with its sign, as far as an operand can go
abbrev pub signed_of : Bool → ℕ → ℤ
signed_of minus n = if nat_lt n (2 ^ 21) then (if minus then pos 0 -ℤ pos n else pos n) else pos 0

abbrev pub low : ℕ → ℕ
low n = n % 2 ^ 8

abbrev pub upper_line : Scan → Option Line
upper_line s = option_map (λ op. Text (Upper op (low s.previous) (s.current_hex % 2 ^ 20 * 2 ^ 12))) (upper_named s.key)

abbrev pub branch_line : Scan → Option Line
branch_line s = option_map (λ op. Text (Branch op (low s.second) (low s.previous) (signed_of s.current_minus s.current))) (branch_named s.key)

abbrev pub load_line : Scan → Option Line
load_line s = option_map (λ op. Text (Load op (low s.second) (low s.current) (signed_of s.previous_minus s.previous))) (load_named s.key)

abbrev pub store_line : Scan → Option Line
store_line s = option_map (λ op. Text (Store op (low s.current) (low s.second) (signed_of s.previous_minus s.previous))) (store_named s.key)

abbrev pub imm_line : Scan → Option Line
imm_line s = option_map (λ op. Text (Imm op (low s.second) (low s.previous) (signed_of s.current_minus s.current))) (imm_named s.key)

abbrev pub shift_line : Scan → Option Line
shift_line s = option_map (λ op. Text (Shift op (low s.second) (low s.previous) (low s.current))) (shift_named s.key)

abbrev pub reg_line : Scan → Option Line
reg_line s = option_map (λ op. Text (Reg op (low s.second) (low s.previous) (low s.current))) (reg_named s.key)

abbrev pub csr_line : Scan → Option Line
csr_line s = option_map (λ op. Text (Csr op (low s.second) (low s.current) (s.previous_hex % 2 ^ 16))) (csr_named s.key)

-- a name of its own, with operands
abbrev pub jump_line : Scan → Option Line
jump_line s =
    if s.key == 0x6a616c then Some (Text (Jal (low s.previous) (signed_of s.current_minus s.current)))
    else if s.key == 0x6a616c72 then Some (Text (Jalr (low s.second) (low s.current) (signed_of s.previous_minus s.previous)))
    else if s.key == 0x66656e6365 then Some (Text (Fence s.current_hex))
    else None

-- a name without operands
abbrev pub bare_line : ℕ → Option Line
bare_line key =
    if key == 0x6563616c6c then Some (Text Ecall)
    else if key == 0x65627265616b then Some (Text Ebreak)
    else if key == 0x6d726574 then Some (Text Mret)
    else if key == 0x776669 then Some (Text Wfi)
    else None

abbrev pub plain_line : Scan → Option Line
plain_line s =
    option_or (option_or (option_or (option_or
    (option_or (option_or (option_or (option_or (upper_line s) (branch_line s)) (load_line s)) (store_line s)) (imm_line s)) (shift_line s)) (reg_line s))
    (csr_line s)) (jump_line s)

abbrev pub amo_line : Scan → ℕ → Option Line
amo_line s order = option_map (λ op. Text (Amo op (low s.third) (low s.current) (low s.second) order)) (amo_named s.key)

abbrev pub atomic_line : Scan → Option ℕ → Option Line
atomic_line s None = None
atomic_line s (Some order) =
    if s.key == 0x6c72 then Some (Text (LoadReserved (low s.second) (low s.current) order))
    else if s.key == 0x7363 then Some (Text (StoreConditional (low s.third) (low s.current) (low s.second) order))
    else amo_line s order

abbrev pub dotted_line : Scan → Option Line
dotted_line s =
    if s.suffix == 0x69 then Some (Text (FenceI s.current_hex))
    else if s.suffix == 0x776f7264 then Some (Word s.current_hex)
    else atomic_line s (order_named s.suffix)

abbrev pub line_in : Phase → Scan → Option Line
line_in Name s = bare_line s.key
line_in Suffix s = None
line_in Operands s = if s.suffix == 0 then plain_line s else dotted_line s

-- the one line that the bytes can be
abbrev pub line_of : Scan → Option Line
line_of s = line_in s.phase s

-- a line is the text of an instruction or gives a word as it is
abbrev pub line_text : Line → List ℕ
line_text (Text i) = text i
line_text (Word w) = with_word (codes ".word") w

abbrev pub LineFits : Line → Type 0
LineFits (Text i) = Fits i
LineFits (Word w) = w < 2 ^ 32

abbrev pub MeansWord : Line → ℕ → Type 0
MeansWord (Text i) w = (w < 2 ^ 32) × (meaning w ≡ Some i)
MeansWord (Word v) w = w ≡ v
