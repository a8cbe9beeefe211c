-- The text of a line names that line again.
use Rattle.std.proofs.Common.{◌≡◌, ℕ, ◌*◌, ◌/◌, ◌%◌, ◌^◌, ◌<◌, Bool, false, List, ◌++◌, refl, ap, ◌∙◌, arith, zero, suc}
use Rattle.std.specs.Prelude.{ℤ, pos, negsuc, ◌==◌, if◌then◌else◌, codes, fold, Some}
use Rattle.std.proofs.lemmas.List.Sums.{fold-append}
use Rattle.std.specs.Fmt.{decimal, signed_decimal, digits}
use Rattle.rv_decode.specs.declared.Instr.TheVariants.{Upper, Jal, Jalr, Branch, Load, Store, Imm, Shift, Reg, Fence, FenceI, Ecall, Ebreak, Mret, Wfi, Csr}
use Rattle.rv_decode.specs.declared.Instr.TheVariants.{LoadReserved, StoreConditional, Amo}
use Rattle.rv_decode.specs.Fits.{IsSigned}
use Rattle.rv_decode.specs.declared.UpperOp.{UpperOp}
use Rattle.rv_decode.specs.declared.UpperOp.TheVariants as upper_op
use Rattle.rv_decode.specs.declared.BranchOp.{BranchOp}
use Rattle.rv_decode.specs.declared.BranchOp.TheVariants as branch_op
use Rattle.rv_decode.specs.declared.LoadOp.{LoadOp}
use Rattle.rv_decode.specs.declared.LoadOp.TheVariants as load_op
use Rattle.rv_decode.specs.declared.StoreOp.{StoreOp}
use Rattle.rv_decode.specs.declared.StoreOp.TheVariants as store_op
use Rattle.rv_decode.specs.declared.ImmOp.{ImmOp}
use Rattle.rv_decode.specs.declared.ImmOp.TheVariants as imm_op
use Rattle.rv_decode.specs.declared.ShiftOp.{ShiftOp}
use Rattle.rv_decode.specs.declared.ShiftOp.TheVariants as shift_op
use Rattle.rv_decode.specs.declared.RegOp.{RegOp}
use Rattle.rv_decode.specs.declared.RegOp.TheVariants as reg_op
use Rattle.rv_decode.specs.declared.CsrOp.{CsrOp}
use Rattle.rv_decode.specs.declared.CsrOp.TheVariants as csr_op
use Rattle.rv_decode.specs.declared.AmoOp.{AmoOp}
use Rattle.rv_decode.specs.declared.AmoOp.TheVariants as amo_op
use Rattle.rv_asm.specs.Names.{upper_name, branch_name, load_name, store_name, imm_name, shift_name, reg_name, csr_name, amo_name, order_suffix}
use Rattle.rv_asm.proofs.NameKeys.{upper_key, branch_key, load_key, store_key, imm_key, shift_key, reg_key, csr_key, amo_key}
use Rattle.rv_asm.specs.Text.{hex_3, hex_8, with_hex, with_number, with_two_and_number, with_three, with_place, with_csr, with_address, with_two_and_address}
use Rattle.rv_asm.specs.Text.{with_word, csr_before}
use Rattle.rv_asm.specs.Scan.{line_text, LineFits}
use Rattle.rv_asm.specs.declared.scan.Line.{Line}
use Rattle.rv_asm.specs.declared.scan.Line.TheVariants.{Text, Word}
use Rattle.rv_asm.specs.declared.scan.Phase.TheVariants.{Suffix}
use Rattle.rv_asm.specs.declared.scan.Scan.{Scan}
use Rattle.rv_asm.specs.Scan.{start, step, signed_of, low, line_of, atomic_line}
use Rattle.rv_asm.proofs.Pieces.{ops, eat, eat_last, eat_hex, eat_signed, eat_signed_last, eat_hex_3, eat_hex_8, signed_again, size_of, minus_of, aside_hex}
use Rattle.rv_asm.proofs.Pieces.{aside_ten}

-- the state behind the name and the blank
abbrev pub blank : ℕ → ℕ → Scan
blank k x = ops k x 0 0 0 0 false 0 0 false

-- the state behind `.w`
abbrev pub dotted : ℕ → Scan
dotted k =
    record {
      phase = Suffix;
      key = k;
      suffix = 0x77;
      third = 0;
      second = 0;
      previous = 0;
      previous_hex = 0;
      previous_minus = false;
      current = 0;
      current_hex = 0;
      current_minus = false;
    }

-- two pieces, and the rest
two : (name before rest : List ℕ) (s : Scan) → fold step (fold step start name) before ≡ s → fold step start (name ++ (before ++ rest)) ≡ fold step s rest
two name before rest s e = fold-append step start name (before ++ rest) ∙ fold-append step (fold step start name) before rest ∙ ap (λ v. fold step v rest) e

-- one lemma for each layout, at any name

three : (name : List ℕ) (k a b c : ℕ) → fold step (fold step start name) (codes " x") ≡ blank k 0 → a < 2 ^ 32 → b < 2 ^ 32 → c < 2 ^ 32
    → fold step start (with_three name a b c) ≡ ops k 0 0 a b (aside_hex b) false c (aside_hex c) false
three name k a b c e f g h =
    two name (codes " x") (decimal a ++ (codes ", x" ++ (decimal b ++ (codes ", x" ++ decimal c)))) (blank k 0) e
    ∙ eat a (codes ", x" ++ (decimal b ++ (codes ", x" ++ decimal c))) k 0 0 0 0 0 false false f
    ∙ eat b (codes ", x" ++ decimal c) k 0 0 0 a (aside_hex a) false false g
    ∙ eat_last c k 0 0 a b (aside_hex b) false false h

two_and_number : (name : List ℕ) (k a b : ℕ) (z : ℤ) → fold step (fold step start name) (codes " x") ≡ blank k 0 → a < 2 ^ 32 → b < 2 ^ 32 → size_of z < 2 ^ 32
    → fold step start (with_two_and_number name a b z) ≡ ops k 0 0 a b (aside_hex b) false (size_of z) (aside_hex (size_of z)) (minus_of z)
two_and_number name k a b z e f g h =
    two name (codes " x") (decimal a ++ (codes ", x" ++ (decimal b ++ (codes ", " ++ signed_decimal z)))) (blank k 0) e
    ∙ eat a (codes ", x" ++ (decimal b ++ (codes ", " ++ signed_decimal z))) k 0 0 0 0 0 false false f
    ∙ eat b (codes ", " ++ signed_decimal z) k 0 0 0 a (aside_hex a) false false g
    ∙ eat_signed_last z k 0 0 a b (aside_hex b) false h

number : (name : List ℕ) (k a : ℕ) (z : ℤ) → fold step (fold step start name) (codes " x") ≡ blank k 0 → a < 2 ^ 32 → size_of z < 2 ^ 32
    → fold step start (with_number name a z) ≡ ops k 0 0 0 a (aside_hex a) false (size_of z) (aside_hex (size_of z)) (minus_of z)
number name k a z e f h =
    two name (codes " x") (decimal a ++ (codes ", " ++ signed_decimal z)) (blank k 0) e
    ∙ eat a (codes ", " ++ signed_decimal z) k 0 0 0 0 0 false false f
    ∙ eat_signed_last z k 0 0 0 a (aside_hex a) false h

hexed : (name : List ℕ) (k a v : ℕ) → fold step (fold step start name) (codes " x") ≡ blank k 0 → a < 2 ^ 32 → v < 2 ^ 32
    → fold step start (with_hex name a v) ≡ ops k 0 0 0 a (aside_hex a) false (aside_ten (digits 16 false v)) v false
hexed name k a v e f h =
    two name (codes " x") (decimal a ++ (codes ", 0x" ++ digits 16 false v)) (blank k 0) e
    ∙ eat a (codes ", 0x" ++ digits 16 false v) k 0 0 0 0 0 false false f
    ∙ eat_hex v k 0 0 0 a (aside_hex a) false false h

place : (name : List ℕ) (k a : ℕ) (z : ℤ) (b : ℕ) → fold step (fold step start name) (codes " x") ≡ blank k 0 → a < 2 ^ 32 → size_of z < 2 ^ 32 → b < 2 ^ 32
    → fold step start (with_place name a z b) ≡ ops k 0 0 a (size_of z) (aside_hex (size_of z)) (minus_of z) b (aside_hex b) false
place name k a z b e f g h =
    two name (codes " x") (decimal a ++ (codes ", " ++ (signed_decimal z ++ (codes "(x" ++ (decimal b ++ codes ")"))))) (blank k 0) e
    ∙ eat a (codes ", " ++ (signed_decimal z ++ (codes "(x" ++ (decimal b ++ codes ")")))) k 0 0 0 0 0 false false f
    ∙ eat_signed z (codes "(x" ++ (decimal b ++ codes ")")) k 0 0 0 a (aside_hex a) false g
    ∙ eat b (codes ")") k 0 0 a (size_of z) (aside_hex (size_of z)) (minus_of z) false h

csr_number : (name before : List ℕ) (k a v b : ℕ) → fold step (fold step start name) (codes " x") ≡ blank k 0 → a < 2 ^ 32 → v < 2 ^ 12 → b < 2 ^ 32
    → ((t n p q c h : ℕ) (pm m : Bool) → fold step (ops k 0 t n p q pm c h m) before ≡ ops k 0 n p c h m 0 0 false)
    → fold step start (with_csr name a v before b) ≡ ops k 0 0 a (aside_ten (hex_3 v)) v false b (aside_hex b) false
csr_number name before k a v b e f g h i =
    two name (codes " x") (decimal a ++ (codes ", 0x" ++ (hex_3 v ++ (before ++ decimal b)))) (blank k 0) e
    ∙ eat a (codes ", 0x" ++ (hex_3 v ++ (before ++ decimal b))) k 0 0 0 0 0 false false f
    ∙ eat_hex_3 v (before ++ decimal b) k 0 0 0 a (aside_hex a) false false g
    ∙ fold-append step (ops k 0 0 0 a (aside_hex a) false (aside_ten (hex_3 v)) v false) before (decimal b)
    ∙ ap (λ s. fold step s (decimal b)) (i 0 0 a (aside_hex a) (aside_ten (hex_3 v)) v false false)
    ∙ eat_last b k 0 0 a (aside_ten (hex_3 v)) v false false h

worded : (name : List ℕ) (k x v : ℕ) → fold step (fold step start name) (codes " 0x") ≡ blank k x → v < 2 ^ 32
    → fold step start (with_word name v) ≡ ops k x 0 0 0 0 false (aside_ten (hex_8 v)) v false
worded name k x v e h = two name (codes " 0x") (hex_8 v) (blank k x) e ∙ eat_hex_8 v k x 0 0 0 0 false false h

abbrev pub order_key : ℕ → ℕ
order_key order =
    if order == 0 then 0x77
    else if order == 1 then 0x772e726c
    else if order == 2 then 0x772e6171
    else 0x772e6171726c

pub below_4 : (P : ℕ → Type 0) → P 0 → P 1 → P 2 → P 3 → (n : ℕ) → n < 4 → P n
below_4 P a b c d zero h = a
below_4 P a b c d (suc zero) h = b
below_4 P a b c d (suc (suc zero)) h = c
below_4 P a b c d (suc (suc (suc zero))) h = d
below_4 P a b c d (suc (suc (suc (suc n)))) h = absurd (omega arith)

ordered : (k order : ℕ) → order < 4 → fold step (fold step (dotted k) (order_suffix order)) (codes " x") ≡ blank k (order_key order)
ordered k order h = below_4 (λ o. fold step (fold step (dotted k) (order_suffix o)) (codes " x") ≡ blank k (order_key o)) refl refl refl refl order h

ordered_line : (order k t n p q : ℕ) (pm : Bool) (c h : ℕ) (m : Bool) → order < 4
    → line_of (ops k (order_key order) t n p q pm c h m) ≡ atomic_line (ops k (order_key order) t n p q pm c h m) (Some order)
ordered_line order k t n p q pm c h m l =
    below_4 (λ o. line_of (ops k (order_key o) t n p q pm c h m) ≡ atomic_line (ops k (order_key o) t n p q pm c h m) (Some o)) refl refl refl refl order l

-- three pieces, and the rest
with_suffix : (name rest : List ℕ) (k order : ℕ) → fold step start name ≡ dotted k → order < 4
    → fold step start (name ++ (order_suffix order ++ (codes " x" ++ rest))) ≡ fold step (blank k (order_key order)) rest
with_suffix name rest k order e h =
    fold-append step start name (order_suffix order ++ (codes " x" ++ rest))
    ∙ ap (λ s. fold step s (order_suffix order ++ (codes " x" ++ rest))) e
    ∙ fold-append step (dotted k) (order_suffix order) (codes " x" ++ rest)
    ∙ fold-append step (fold step (dotted k) (order_suffix order)) (codes " x") rest
    ∙ ap (λ s. fold step s rest) (ordered k order h)

address : (name : List ℕ) (k order a b : ℕ) → fold step start name ≡ dotted k → order < 4 → a < 2 ^ 32 → b < 2 ^ 32
    → fold step start (with_address name order a b) ≡ ops k (order_key order) 0 a 0 0 false b (aside_hex b) false
address name k order a b e o f g =
    with_suffix name (decimal a ++ (codes ", (x" ++ (decimal b ++ codes ")"))) k order e o
    ∙ eat a (codes ", (x" ++ (decimal b ++ codes ")")) k (order_key order) 0 0 0 0 false false f
    ∙ eat b (codes ")") k (order_key order) 0 a 0 0 false false g

two_and_address : (name : List ℕ) (k order a b c : ℕ) → fold step start name ≡ dotted k → order < 4 → a < 2 ^ 32 → b < 2 ^ 32 → c < 2 ^ 32
    → fold step start (with_two_and_address name order a b c) ≡ ops k (order_key order) a b 0 0 false c (aside_hex c) false
two_and_address name k order a b c e o f g h =
    with_suffix name (decimal a ++ (codes ", x" ++ (decimal b ++ (codes ", (x" ++ (decimal c ++ codes ")"))))) k order e o
    ∙ eat a (codes ", x" ++ (decimal b ++ (codes ", (x" ++ (decimal c ++ codes ")")))) k (order_key order) 0 0 0 0 false false f
    ∙ eat b (codes ", (x" ++ (decimal c ++ codes ")")) k (order_key order) 0 0 a (aside_hex a) false false g
    ∙ eat c (codes ")") k (order_key order) a b 0 0 false false h

-- each name, and the line that its key gives
upper_head : (op : UpperOp) → fold step (fold step start (upper_name op)) (codes " x") ≡ blank (upper_key op) 0
upper_head upper_op.Lui = refl
upper_head upper_op.Auipc = refl

upper_found : (op : UpperOp) (t n p q : ℕ) (pm : Bool) (c h : ℕ) (m : Bool)
    → line_of (ops (upper_key op) 0 t n p q pm c h m) ≡ Some (Text (Upper op (low p) (h % 2 ^ 20 * 2 ^ 12)))
upper_found upper_op.Lui t n p q pm c h m = refl
upper_found upper_op.Auipc t n p q pm c h m = refl

branch_head : (op : BranchOp) → fold step (fold step start (branch_name op)) (codes " x") ≡ blank (branch_key op) 0
branch_head branch_op.Beq = refl
branch_head branch_op.Bne = refl
branch_head branch_op.Blt = refl
branch_head branch_op.Bge = refl
branch_head branch_op.Bltu = refl
branch_head branch_op.Bgeu = refl

branch_found : (op : BranchOp) (t n p q : ℕ) (pm : Bool) (c h : ℕ) (m : Bool)
    → line_of (ops (branch_key op) 0 t n p q pm c h m) ≡ Some (Text (Branch op (low n) (low p) (signed_of m c)))
branch_found branch_op.Beq t n p q pm c h m = refl
branch_found branch_op.Bne t n p q pm c h m = refl
branch_found branch_op.Blt t n p q pm c h m = refl
branch_found branch_op.Bge t n p q pm c h m = refl
branch_found branch_op.Bltu t n p q pm c h m = refl
branch_found branch_op.Bgeu t n p q pm c h m = refl

load_head : (op : LoadOp) → fold step (fold step start (load_name op)) (codes " x") ≡ blank (load_key op) 0
load_head load_op.Lb = refl
load_head load_op.Lh = refl
load_head load_op.Lw = refl
load_head load_op.Lbu = refl
load_head load_op.Lhu = refl

load_found : (op : LoadOp) (t n p q : ℕ) (pm : Bool) (c h : ℕ) (m : Bool)
    → line_of (ops (load_key op) 0 t n p q pm c h m) ≡ Some (Text (Load op (low n) (low c) (signed_of pm p)))
load_found load_op.Lb t n p q pm c h m = refl
load_found load_op.Lh t n p q pm c h m = refl
load_found load_op.Lw t n p q pm c h m = refl
load_found load_op.Lbu t n p q pm c h m = refl
load_found load_op.Lhu t n p q pm c h m = refl

store_head : (op : StoreOp) → fold step (fold step start (store_name op)) (codes " x") ≡ blank (store_key op) 0
store_head store_op.Sb = refl
store_head store_op.Sh = refl
store_head store_op.Sw = refl

store_found : (op : StoreOp) (t n p q : ℕ) (pm : Bool) (c h : ℕ) (m : Bool)
    → line_of (ops (store_key op) 0 t n p q pm c h m) ≡ Some (Text (Store op (low c) (low n) (signed_of pm p)))
store_found store_op.Sb t n p q pm c h m = refl
store_found store_op.Sh t n p q pm c h m = refl
store_found store_op.Sw t n p q pm c h m = refl

imm_head : (op : ImmOp) → fold step (fold step start (imm_name op)) (codes " x") ≡ blank (imm_key op) 0
imm_head imm_op.Addi = refl
imm_head imm_op.Slti = refl
imm_head imm_op.Sltiu = refl
imm_head imm_op.Xori = refl
imm_head imm_op.Ori = refl
imm_head imm_op.Andi = refl

imm_found : (op : ImmOp) (t n p q : ℕ) (pm : Bool) (c h : ℕ) (m : Bool)
    → line_of (ops (imm_key op) 0 t n p q pm c h m) ≡ Some (Text (Imm op (low n) (low p) (signed_of m c)))
imm_found imm_op.Addi t n p q pm c h m = refl
imm_found imm_op.Slti t n p q pm c h m = refl
imm_found imm_op.Sltiu t n p q pm c h m = refl
imm_found imm_op.Xori t n p q pm c h m = refl
imm_found imm_op.Ori t n p q pm c h m = refl
imm_found imm_op.Andi t n p q pm c h m = refl

shift_head : (op : ShiftOp) → fold step (fold step start (shift_name op)) (codes " x") ≡ blank (shift_key op) 0
shift_head shift_op.Slli = refl
shift_head shift_op.Srli = refl
shift_head shift_op.Srai = refl

shift_found : (op : ShiftOp) (t n p q : ℕ) (pm : Bool) (c h : ℕ) (m : Bool)
    → line_of (ops (shift_key op) 0 t n p q pm c h m) ≡ Some (Text (Shift op (low n) (low p) (low c)))
shift_found shift_op.Slli t n p q pm c h m = refl
shift_found shift_op.Srli t n p q pm c h m = refl
shift_found shift_op.Srai t n p q pm c h m = refl

reg_head : (op : RegOp) → fold step (fold step start (reg_name op)) (codes " x") ≡ blank (reg_key op) 0
reg_head reg_op.Add = refl
reg_head reg_op.Sub = refl
reg_head reg_op.Sll = refl
reg_head reg_op.Slt = refl
reg_head reg_op.Sltu = refl
reg_head reg_op.Xor = refl
reg_head reg_op.Srl = refl
reg_head reg_op.Sra = refl
reg_head reg_op.Or = refl
reg_head reg_op.And = refl
reg_head reg_op.Mul = refl
reg_head reg_op.Mulh = refl
reg_head reg_op.Mulhsu = refl
reg_head reg_op.Mulhu = refl
reg_head reg_op.Div = refl
reg_head reg_op.Divu = refl
reg_head reg_op.Rem = refl
reg_head reg_op.Remu = refl

reg_found : (op : RegOp) (t n p q : ℕ) (pm : Bool) (c h : ℕ) (m : Bool)
    → line_of (ops (reg_key op) 0 t n p q pm c h m) ≡ Some (Text (Reg op (low n) (low p) (low c)))
reg_found reg_op.Add t n p q pm c h m = refl
reg_found reg_op.Sub t n p q pm c h m = refl
reg_found reg_op.Sll t n p q pm c h m = refl
reg_found reg_op.Slt t n p q pm c h m = refl
reg_found reg_op.Sltu t n p q pm c h m = refl
reg_found reg_op.Xor t n p q pm c h m = refl
reg_found reg_op.Srl t n p q pm c h m = refl
reg_found reg_op.Sra t n p q pm c h m = refl
reg_found reg_op.Or t n p q pm c h m = refl
reg_found reg_op.And t n p q pm c h m = refl
reg_found reg_op.Mul t n p q pm c h m = refl
reg_found reg_op.Mulh t n p q pm c h m = refl
reg_found reg_op.Mulhsu t n p q pm c h m = refl
reg_found reg_op.Mulhu t n p q pm c h m = refl
reg_found reg_op.Div t n p q pm c h m = refl
reg_found reg_op.Divu t n p q pm c h m = refl
reg_found reg_op.Rem t n p q pm c h m = refl
reg_found reg_op.Remu t n p q pm c h m = refl

csr_head : (op : CsrOp) → fold step (fold step start (csr_name op)) (codes " x") ≡ blank (csr_key op) 0
csr_head csr_op.Csrrw = refl
csr_head csr_op.Csrrs = refl
csr_head csr_op.Csrrc = refl
csr_head csr_op.Csrrwi = refl
csr_head csr_op.Csrrsi = refl
csr_head csr_op.Csrrci = refl

csr_found : (op : CsrOp) (t n p q : ℕ) (pm : Bool) (c h : ℕ) (m : Bool)
    → line_of (ops (csr_key op) 0 t n p q pm c h m) ≡ Some (Text (Csr op (low n) (low c) (q % 2 ^ 16)))
csr_found csr_op.Csrrw t n p q pm c h m = refl
csr_found csr_op.Csrrs t n p q pm c h m = refl
csr_found csr_op.Csrrc t n p q pm c h m = refl
csr_found csr_op.Csrrwi t n p q pm c h m = refl
csr_found csr_op.Csrrsi t n p q pm c h m = refl
csr_found csr_op.Csrrci t n p q pm c h m = refl

amo_head : (op : AmoOp) → fold step start (amo_name op) ≡ dotted (amo_key op)
amo_head amo_op.Swap = refl
amo_head amo_op.Add = refl
amo_head amo_op.Xor = refl
amo_head amo_op.And = refl
amo_head amo_op.Or = refl
amo_head amo_op.Min = refl
amo_head amo_op.Max = refl
amo_head amo_op.Minu = refl
amo_head amo_op.Maxu = refl

amo_found : (op : AmoOp) (order x t n p q : ℕ) (pm : Bool) (c h : ℕ) (m : Bool)
    → atomic_line (ops (amo_key op) x t n p q pm c h m) (Some order) ≡ Some (Text (Amo op (low t) (low c) (low n) order))
amo_found amo_op.Swap order x t n p q pm c h m = refl
amo_found amo_op.Add order x t n p q pm c h m = refl
amo_found amo_op.Xor order x t n p q pm c h m = refl
amo_found amo_op.And order x t n p q pm c h m = refl
amo_found amo_op.Or order x t n p q pm c h m = refl
amo_found amo_op.Min order x t n p q pm c h m = refl
amo_found amo_op.Max order x t n p q pm c h m = refl
amo_found amo_op.Minu order x t n p q pm c h m = refl
amo_found amo_op.Maxu order x t n p q pm c h m = refl

before_step : (op : CsrOp) (k t n p q c h : ℕ) (pm m : Bool) → fold step (ops k 0 t n p q pm c h m) (csr_before op) ≡ ops k 0 n p c h m 0 0 false
before_step csr_op.Csrrw k t n p q c h pm m = refl
before_step csr_op.Csrrs k t n p q c h pm m = refl
before_step csr_op.Csrrc k t n p q c h pm m = refl
before_step csr_op.Csrrwi k t n p q c h pm m = refl
before_step csr_op.Csrrsi k t n p q c h pm m = refl
before_step csr_op.Csrrci k t n p q c h pm m = refl

pub wide : (n : ℕ) → n < 32 → n < 2 ^ 32
wide n h = omega arith

low_small : (n : ℕ) → n < 32 → low n ≡ n
low_small n h = omega arith

pub size_11 : (z : ℤ) → IsSigned 11 z → size_of z < 2 ^ 21
size_11 (pos a) h = omega arith
size_11 (negsuc a) h = omega arith

pub size_12 : (z : ℤ) → IsSigned 12 z → size_of z < 2 ^ 21
size_12 (pos a) h = omega arith
size_12 (negsuc a) h = omega arith

pub size_20 : (z : ℤ) → IsSigned 20 z → size_of z < 2 ^ 21
size_20 (pos a) h = omega arith
size_20 (negsuc a) h = omega arith

pub wider_size : (n : ℕ) → n < 2 ^ 21 → n < 2 ^ 32
wider_size n h = omega arith

high_part : (n : ℕ) → n % 2 ^ 12 ≡ 0 → n < 2 ^ 32 → n / 2 ^ 12 % 2 ^ 20 * 2 ^ 12 ≡ n
high_part n e h = omega arith

number_part : (n : ℕ) → n < 2 ^ 12 → n % 2 ^ 16 ≡ n
number_part n h = omega arith

pub complete : (l : Line) → LineFits l → line_of (fold step start (line_text l)) ≡ Some l
complete (Text (Upper op rd imm)) f =
    let a : low rd ≡ rd = low_small rd f.0 in
    let b : imm / 2 ^ 12 % 2 ^ 20 * 2 ^ 12 ≡ imm = high_part imm f.1 f.2 in
    ap line_of (hexed (upper_name op) (upper_key op) rd (imm / 2 ^ 12) (upper_head op) (wide rd f.0) (let l = f.2 in omega (arith, l)))
    ∙ upper_found op 0 0 rd (aside_hex rd) false (aside_ten (digits 16 false (imm / 2 ^ 12))) (imm / 2 ^ 12) false
    ∙ (cc)
complete (Text (Jal rd offset)) f =
    let a : low rd ≡ rd = low_small rd f.0 in
    let sz : signed_of (minus_of offset) (size_of offset) ≡ offset = signed_again offset (size_20 offset f.1) in
    ap line_of (number (codes "jal") 0x6a616c rd offset refl (wide rd f.0) (wider_size (size_of offset) (size_20 offset f.1)))
    ∙ refl
    ∙ (cc)
complete (Text (Jalr rd rs1 offset)) f =
    let a : low rd ≡ rd = low_small rd f.0 in
    let b : low rs1 ≡ rs1 = low_small rs1 f.1 in
    let sz : signed_of (minus_of offset) (size_of offset) ≡ offset = signed_again offset (size_11 offset f.2) in
    ap line_of (place (codes "jalr") 0x6a616c72 rd offset rs1 refl (wide rd f.0) (wider_size (size_of offset) (size_11 offset f.2)) (wide rs1 f.1))
    ∙ refl
    ∙ (cc)
complete (Text (Branch op rs1 rs2 offset)) f =
    let a : low rs1 ≡ rs1 = low_small rs1 f.0 in
    let b : low rs2 ≡ rs2 = low_small rs2 f.1 in
    let sz : signed_of (minus_of offset) (size_of offset) ≡ offset = signed_again offset (size_12 offset f.2) in
    ap line_of (two_and_number (branch_name op) (branch_key op) rs1 rs2 offset (branch_head op) (wide rs1 f.0) (wide rs2 f.1)
    (wider_size (size_of offset) (size_12 offset f.2)))
    ∙ branch_found op 0 rs1 rs2 (aside_hex rs2) false (size_of offset) (aside_hex (size_of offset)) (minus_of offset)
    ∙ (cc)
complete (Text (Imm op rd rs1 imm)) f =
    let a : low rd ≡ rd = low_small rd f.0 in
    let b : low rs1 ≡ rs1 = low_small rs1 f.1 in
    let sz : signed_of (minus_of imm) (size_of imm) ≡ imm = signed_again imm (size_11 imm f.2) in
    ap line_of (two_and_number (imm_name op) (imm_key op) rd rs1 imm (imm_head op) (wide rd f.0) (wide rs1 f.1) (wider_size (size_of imm) (size_11 imm f.2)))
    ∙ imm_found op 0 rd rs1 (aside_hex rs1) false (size_of imm) (aside_hex (size_of imm)) (minus_of imm)
    ∙ (cc)
complete (Text (Load op rd rs1 offset)) f =
    let a : low rd ≡ rd = low_small rd f.0 in
    let b : low rs1 ≡ rs1 = low_small rs1 f.1 in
    let sz : signed_of (minus_of offset) (size_of offset) ≡ offset = signed_again offset (size_11 offset f.2) in
    ap line_of (place (load_name op) (load_key op) rd offset rs1 (load_head op) (wide rd f.0) (wider_size (size_of offset) (size_11 offset f.2)) (wide rs1 f.1))
    ∙ load_found op 0 rd (size_of offset) (aside_hex (size_of offset)) (minus_of offset) rs1 (aside_hex rs1) false
    ∙ (cc)
complete (Text (Store op rs1 rs2 offset)) f =
    let a : low rs2 ≡ rs2 = low_small rs2 f.1 in
    let b : low rs1 ≡ rs1 = low_small rs1 f.0 in
    let sz : signed_of (minus_of offset) (size_of offset) ≡ offset = signed_again offset (size_11 offset f.2) in
    ap line_of (place (store_name op) (store_key op) rs2 offset rs1 (store_head op) (wide rs2 f.1) (wider_size (size_of offset) (size_11 offset f.2))
    (wide rs1 f.0))
    ∙ store_found op 0 rs2 (size_of offset) (aside_hex (size_of offset)) (minus_of offset) rs1 (aside_hex rs1) false
    ∙ (cc)
complete (Text (Shift op rd rs1 amount)) f =
    let a : low rd ≡ rd = low_small rd f.0 in
    let b : low rs1 ≡ rs1 = low_small rs1 f.1 in
    let d : low amount ≡ amount = low_small amount f.2 in
    ap line_of (two_and_number (shift_name op) (shift_key op) rd rs1 (pos amount) (shift_head op) (wide rd f.0) (wide rs1 f.1) (wide amount f.2))
    ∙ shift_found op 0 rd rs1 (aside_hex rs1) false amount (aside_hex amount) false
    ∙ (cc)
complete (Text (Reg op rd rs1 rs2)) f =
    let a : low rd ≡ rd = low_small rd f.0 in
    let b : low rs1 ≡ rs1 = low_small rs1 f.1 in
    let d : low rs2 ≡ rs2 = low_small rs2 f.2 in
    ap line_of (three (reg_name op) (reg_key op) rd rs1 rs2 (reg_head op) (wide rd f.0) (wide rs1 f.1) (wide rs2 f.2))
    ∙ reg_found op 0 rd rs1 (aside_hex rs1) false rs2 (aside_hex rs2) false
    ∙ (cc)
complete (Text (Csr op rd rs1 number)) f =
    let a : low rd ≡ rd = low_small rd f.0 in
    let b : low rs1 ≡ rs1 = low_small rs1 f.1 in
    let d : number % 2 ^ 16 ≡ number = number_part number f.2 in
    ap line_of (csr_number (csr_name op) (csr_before op) (csr_key op) rd number rs1 (csr_head op) (wide rd f.0) f.2 (wide rs1 f.1)
    (before_step op (csr_key op)))
    ∙ csr_found op 0 rd (aside_ten (hex_3 number)) number false rs1 (aside_hex rs1) false
    ∙ (cc)
complete (Text (LoadReserved rd rs1 order)) f =
    let a : low rd ≡ rd = low_small rd f.0 in
    let b : low rs1 ≡ rs1 = low_small rs1 f.1 in
    ap line_of (address (codes "lr.w") 0x6c72 order rd rs1 refl f.2 (wide rd f.0) (wide rs1 f.1))
    ∙ ordered_line order 0x6c72 0 rd 0 0 false rs1 (aside_hex rs1) false f.2
    ∙ (cc)
complete (Text (StoreConditional rd rs1 rs2 order)) f =
    let a : low rd ≡ rd = low_small rd f.0 in
    let b : low rs1 ≡ rs1 = low_small rs1 f.1 in
    let d : low rs2 ≡ rs2 = low_small rs2 f.2 in
    ap line_of (two_and_address (codes "sc.w") 0x7363 order rd rs2 rs1 refl f.3 (wide rd f.0) (wide rs2 f.2) (wide rs1 f.1))
    ∙ ordered_line order 0x7363 rd rs2 0 0 false rs1 (aside_hex rs1) false f.3
    ∙ (cc)
complete (Text (Amo op rd rs1 rs2 order)) f =
    let a : low rd ≡ rd = low_small rd f.0 in
    let b : low rs1 ≡ rs1 = low_small rs1 f.1 in
    let d : low rs2 ≡ rs2 = low_small rs2 f.2 in
    ap line_of (two_and_address (amo_name op) (amo_key op) order rd rs2 rs1 (amo_head op) f.3 (wide rd f.0) (wide rs2 f.2) (wide rs1 f.1))
    ∙ ordered_line order (amo_key op) rd rs2 0 0 false rs1 (aside_hex rs1) false f.3
    ∙ amo_found op order (order_key order) rd rs2 0 0 false rs1 (aside_hex rs1) false
    ∙ (cc)
complete (Text (Fence word)) f = ap line_of (worded (codes "fence") 0x66656e6365 0 word refl f.1)
complete (Text (FenceI word)) f = ap line_of (worded (codes "fence.i") 0x66656e6365 0x69 word refl f.1)
complete (Text Ecall) f = refl
complete (Text Ebreak) f = refl
complete (Text Mret) f = refl
complete (Text Wfi) f = refl
complete (Word w) f = ap line_of (worded (codes ".word") 0 0x776f7264 w refl f)
