-- No newline stands in a line of the grammar.
use Rattle.std.proofs.Common.{◌≡◌, ℕ, ◌/◌, ◌^◌, ◌<◌, true, false, List, [], ◌∷◌, ◌++◌, refl, arith, suc}
use Rattle.std.specs.Prelude.{ℤ, pos, negsuc, ◌==◌, codes, not}
use Rattle.std.specs.List.{list_all}
use Rattle.std.proofs.lemmas.Bool.Decides.{nat_tests}
use Rattle.std.specs.Fmt.{decimal, signed_decimal, digits}
use Rattle.std.specs.Str.Parse.{AllDigits}
use Rattle.rv_decode.specs.declared.Instr.{Instr}
use Rattle.rv_decode.specs.declared.Instr.TheVariants.{Upper, Jal, Jalr, Branch, Load, Store, Imm, Shift, Reg, Fence, FenceI, Ecall, Ebreak, Mret, Wfi, Csr}
use Rattle.rv_decode.specs.declared.Instr.TheVariants.{LoadReserved, StoreConditional, Amo}
use Rattle.rv_decode.specs.Fits.{Fits}
use Rattle.rv_decode.specs.declared.UpperOp.{UpperOp}
use Rattle.rv_decode.specs.declared.UpperOp.TheVariants as upper_op
use Rattle.rv_decode.specs.declared.BranchOp.{BranchOp}
use Rattle.rv_decode.specs.declared.BranchOp.TheVariants as branch_op
use Rattle.rv_decode.specs.declared.LoadOp.{LoadOp}
use Rattle.rv_decode.specs.declared.LoadOp.TheVariants as load_op
use Rattle.rv_decode.specs.declared.StoreOp.{StoreOp}
use Rattle.rv_decode.specs.declared.StoreOp.TheVariants as store_op
use Rattle.rv_decode.specs.declared.ImmOp.{ImmOp}
use Rattle.rv_decode.specs.declared.ImmOp.TheVariants as imm_op
use Rattle.rv_decode.specs.declared.ShiftOp.{ShiftOp}
use Rattle.rv_decode.specs.declared.ShiftOp.TheVariants as shift_op
use Rattle.rv_decode.specs.declared.RegOp.{RegOp}
use Rattle.rv_decode.specs.declared.RegOp.TheVariants as reg_op
use Rattle.rv_decode.specs.declared.CsrOp.{CsrOp}
use Rattle.rv_decode.specs.declared.CsrOp.TheVariants as csr_op
use Rattle.rv_decode.specs.declared.AmoOp.{AmoOp}
use Rattle.rv_decode.specs.declared.AmoOp.TheVariants as amo_op
use Rattle.rv_asm.specs.Names.{upper_name, branch_name, load_name, store_name, imm_name, shift_name, reg_name, csr_name, amo_name, order_suffix}
use Rattle.rv_asm.specs.Text.{hex_3, hex_8, with_hex, with_number, with_two_and_number, with_three, with_place, with_csr, with_address, with_two_and_address}
use Rattle.rv_asm.specs.Text.{with_word, csr_before, text}
use Rattle.rv_asm.specs.Grammar.{IsLine}
use Rattle.rv_asm.specs.Scan.{line_text, LineFits}
use Rattle.rv_asm.specs.declared.scan.Line.{Line}
use Rattle.rv_asm.specs.declared.scan.Line.TheVariants.{Text, Word}
use Rattle.rv_asm.proofs.Pieces.{not_newline, decimal_digits, hex_digits, hex_3_digits, hex_8_digits, size_of}
use Rattle.rv_asm.proofs.Complete.{below_4, wide, size_11, size_12, size_20, wider_size}

pub joined : (a b : List ℕ) → IsLine a → IsLine b → IsLine (a ++ b)
joined [] b h k = k
joined (x ∷ a) b h k = (h.0, joined a b h.1 k)

tested : (xs : List ℕ) → list_all (λ b. not (b == 10)) xs ≡ true → IsLine xs
tested [] h = tt
tested (x ∷ xs) h = (grind (arith, nat_tests), tested xs (grind (arith, nat_tests)))

digits_line : (ds : List ℕ) → AllDigits 16 ds → IsLine ds
digits_line [] d = tt
digits_line (b ∷ ds) d = (not_newline b d.0, digits_line ds d.1)

dec : (a : ℕ) → a < 2 ^ 32 → IsLine (decimal a)
dec a h = digits_line (decimal a) (decimal_digits a h)

dec_on : (a : ℕ) (rest : List ℕ) → a < 2 ^ 32 → IsLine rest → IsLine (decimal a ++ rest)
dec_on a rest h r = joined (decimal a) rest (dec a h) r

number : (z : ℤ) → size_of z < 2 ^ 32 → IsLine (signed_decimal z)
number (pos a) h = dec a h
number (negsuc a) h = (refl, dec (suc a) h)

number_on : (z : ℤ) (rest : List ℕ) → size_of z < 2 ^ 32 → IsLine rest → IsLine (signed_decimal z ++ rest)
number_on z rest h r = joined (signed_decimal z) rest (number z h) r

-- one lemma for each layout, at any name

hexed : (name : List ℕ) (a n : ℕ) → IsLine name → a < 2 ^ 32 → n < 2 ^ 32 → IsLine (with_hex name a n)
hexed name a n i f g =
    joined name (codes " x" ++ (decimal a ++ (codes ", 0x" ++ digits 16 false n))) i
    (refl, (refl, dec_on a (codes ", 0x" ++ digits 16 false n) f (refl, (refl, (refl, (refl, digits_line (digits 16 false n) (hex_digits n g)))))))

numbered : (name : List ℕ) (a : ℕ) (z : ℤ) → IsLine name → a < 2 ^ 32 → size_of z < 2 ^ 32 → IsLine (with_number name a z)
numbered name a z i f g =
    joined name (codes " x" ++ (decimal a ++ (codes ", " ++ signed_decimal z))) i
    (refl, (refl, dec_on a (codes ", " ++ signed_decimal z) f (refl, (refl, number z g))))

two_and_number : (name : List ℕ) (a b : ℕ) (z : ℤ) → IsLine name → a < 2 ^ 32 → b < 2 ^ 32 → size_of z < 2 ^ 32 → IsLine (with_two_and_number name a b z)
two_and_number name a b z i f g h =
    joined name (codes " x" ++ (decimal a ++ (codes ", x" ++ (decimal b ++ (codes ", " ++ signed_decimal z))))) i (
      refl,
      (
        refl,
        dec_on a (codes ", x" ++ (decimal b ++ (codes ", " ++ signed_decimal z))) f
            (refl, (refl, (refl, dec_on b (codes ", " ++ signed_decimal z) g (refl, (refl, number z h))))),
      ),
    )

three : (name : List ℕ) (a b c : ℕ) → IsLine name → a < 2 ^ 32 → b < 2 ^ 32 → c < 2 ^ 32 → IsLine (with_three name a b c)
three name a b c i f g h =
    joined name (codes " x" ++ (decimal a ++ (codes ", x" ++ (decimal b ++ (codes ", x" ++ decimal c))))) i (
      refl,
      (
        refl,
        dec_on a (codes ", x" ++ (decimal b ++ (codes ", x" ++ decimal c))) f
            (refl, (refl, (refl, dec_on b (codes ", x" ++ decimal c) g (refl, (refl, (refl, dec c h)))))),
      ),
    )

place : (name : List ℕ) (a : ℕ) (z : ℤ) (b : ℕ) → IsLine name → a < 2 ^ 32 → size_of z < 2 ^ 32 → b < 2 ^ 32 → IsLine (with_place name a z b)
place name a z b i f g h =
    joined name (codes " x" ++ (decimal a ++ (codes ", " ++ (signed_decimal z ++ (codes "(x" ++ (decimal b ++ codes ")")))))) i (
      refl,
      (
        refl,
        dec_on a (codes ", " ++ (signed_decimal z ++ (codes "(x" ++ (decimal b ++ codes ")")))) f
            (refl, (refl, number_on z (codes "(x" ++ (decimal b ++ codes ")")) g (refl, (refl, dec_on b (codes ")") h (refl, tt))))),
      ),
    )

csr_number : (name before : List ℕ) (a n b : ℕ) → IsLine name → IsLine before → a < 2 ^ 32 → n < 2 ^ 12 → b < 2 ^ 32 → IsLine (with_csr name a n before b)
csr_number name before a n b i j f g h =
    joined name (codes " x" ++ (decimal a ++ (codes ", 0x" ++ (hex_3 n ++ (before ++ decimal b))))) i (
      refl,
      (
        refl,
        dec_on a (codes ", 0x" ++ (hex_3 n ++ (before ++ decimal b))) f (
          refl,
          (
            refl,
            (
              refl,
              (
                refl,
                joined (hex_3 n) (before ++ decimal b) (digits_line (hex_3 n) (hex_3_digits n g))
                    (joined before (decimal b) j (dec b h)),
              ),
            ),
          ),
        ),
      ),
    )

order_line : (order : ℕ) → order < 4 → IsLine (order_suffix order)
order_line order h =
    below_4 (λ o. IsLine (order_suffix o)) tt (refl, (refl, (refl, tt))) (refl, (refl, (refl, tt))) (refl, (refl, (refl, (refl, (refl, tt))))) order h

address : (name : List ℕ) (order a b : ℕ) → IsLine name → order < 4 → a < 2 ^ 32 → b < 2 ^ 32 → IsLine (with_address name order a b)
address name order a b i o f g =
    joined name (order_suffix order ++ (codes " x" ++ (decimal a ++ (codes ", (x" ++ (decimal b ++ codes ")"))))) i
    (joined (order_suffix order) (codes " x" ++ (decimal a ++ (codes ", (x" ++ (decimal b ++ codes ")")))) (order_line order o)
    (refl, (refl, dec_on a (codes ", (x" ++ (decimal b ++ codes ")")) f (refl, (refl, (refl, (refl, dec_on b (codes ")") g (refl, tt))))))))

two_and_address : (name : List ℕ) (order a b c : ℕ) → IsLine name → order < 4 → a < 2 ^ 32 → b < 2 ^ 32 → c < 2 ^ 32
    → IsLine (with_two_and_address name order a b c)
two_and_address name order a b c i o f g h =
    joined name (order_suffix order ++ (codes " x" ++ (decimal a ++ (codes ", x" ++ (decimal b ++ (codes ", (x" ++ (decimal c ++ codes ")"))))))) i
    (joined (order_suffix order) (codes " x" ++ (decimal a ++ (codes ", x" ++ (decimal b ++ (codes ", (x" ++ (decimal c ++ codes ")"))))))
    (order_line order o) (
      refl,
      (
        refl,
        dec_on a (codes ", x" ++ (decimal b ++ (codes ", (x" ++ (decimal c ++ codes ")")))) f (
          refl,
          (
            refl,
            (
              refl,
              dec_on b (codes ", (x" ++ (decimal c ++ codes ")")) g
                  (refl, (refl, (refl, (refl, dec_on c (codes ")") h (refl, tt))))),
            ),
          ),
        ),
      ),
    ))

worded : (name : List ℕ) (n : ℕ) → IsLine name → n < 2 ^ 32 → IsLine (with_word name n)
worded name n i g = joined name (codes " 0x" ++ hex_8 n) i (refl, (refl, (refl, digits_line (hex_8 n) (hex_8_digits n g))))

upper_line : (op : UpperOp) → IsLine (upper_name op)
upper_line upper_op.Lui = tested (upper_name upper_op.Lui) refl
upper_line upper_op.Auipc = tested (upper_name upper_op.Auipc) refl

branch_line : (op : BranchOp) → IsLine (branch_name op)
branch_line branch_op.Beq = tested (branch_name branch_op.Beq) refl
branch_line branch_op.Bne = tested (branch_name branch_op.Bne) refl
branch_line branch_op.Blt = tested (branch_name branch_op.Blt) refl
branch_line branch_op.Bge = tested (branch_name branch_op.Bge) refl
branch_line branch_op.Bltu = tested (branch_name branch_op.Bltu) refl
branch_line branch_op.Bgeu = tested (branch_name branch_op.Bgeu) refl

load_line : (op : LoadOp) → IsLine (load_name op)
load_line load_op.Lb = tested (load_name load_op.Lb) refl
load_line load_op.Lh = tested (load_name load_op.Lh) refl
load_line load_op.Lw = tested (load_name load_op.Lw) refl
load_line load_op.Lbu = tested (load_name load_op.Lbu) refl
load_line load_op.Lhu = tested (load_name load_op.Lhu) refl

store_line : (op : StoreOp) → IsLine (store_name op)
store_line store_op.Sb = tested (store_name store_op.Sb) refl
store_line store_op.Sh = tested (store_name store_op.Sh) refl
store_line store_op.Sw = tested (store_name store_op.Sw) refl

imm_line : (op : ImmOp) → IsLine (imm_name op)
imm_line imm_op.Addi = tested (imm_name imm_op.Addi) refl
imm_line imm_op.Slti = tested (imm_name imm_op.Slti) refl
imm_line imm_op.Sltiu = tested (imm_name imm_op.Sltiu) refl
imm_line imm_op.Xori = tested (imm_name imm_op.Xori) refl
imm_line imm_op.Ori = tested (imm_name imm_op.Ori) refl
imm_line imm_op.Andi = tested (imm_name imm_op.Andi) refl

shift_line : (op : ShiftOp) → IsLine (shift_name op)
shift_line shift_op.Slli = tested (shift_name shift_op.Slli) refl
shift_line shift_op.Srli = tested (shift_name shift_op.Srli) refl
shift_line shift_op.Srai = tested (shift_name shift_op.Srai) refl

reg_line : (op : RegOp) → IsLine (reg_name op)
reg_line reg_op.Add = tested (reg_name reg_op.Add) refl
reg_line reg_op.Sub = tested (reg_name reg_op.Sub) refl
reg_line reg_op.Sll = tested (reg_name reg_op.Sll) refl
reg_line reg_op.Slt = tested (reg_name reg_op.Slt) refl
reg_line reg_op.Sltu = tested (reg_name reg_op.Sltu) refl
reg_line reg_op.Xor = tested (reg_name reg_op.Xor) refl
reg_line reg_op.Srl = tested (reg_name reg_op.Srl) refl
reg_line reg_op.Sra = tested (reg_name reg_op.Sra) refl
reg_line reg_op.Or = tested (reg_name reg_op.Or) refl
reg_line reg_op.And = tested (reg_name reg_op.And) refl
reg_line reg_op.Mul = tested (reg_name reg_op.Mul) refl
reg_line reg_op.Mulh = tested (reg_name reg_op.Mulh) refl
reg_line reg_op.Mulhsu = tested (reg_name reg_op.Mulhsu) refl
reg_line reg_op.Mulhu = tested (reg_name reg_op.Mulhu) refl
reg_line reg_op.Div = tested (reg_name reg_op.Div) refl
reg_line reg_op.Divu = tested (reg_name reg_op.Divu) refl
reg_line reg_op.Rem = tested (reg_name reg_op.Rem) refl
reg_line reg_op.Remu = tested (reg_name reg_op.Remu) refl

csr_line : (op : CsrOp) → IsLine (csr_name op)
csr_line csr_op.Csrrw = tested (csr_name csr_op.Csrrw) refl
csr_line csr_op.Csrrs = tested (csr_name csr_op.Csrrs) refl
csr_line csr_op.Csrrc = tested (csr_name csr_op.Csrrc) refl
csr_line csr_op.Csrrwi = tested (csr_name csr_op.Csrrwi) refl
csr_line csr_op.Csrrsi = tested (csr_name csr_op.Csrrsi) refl
csr_line csr_op.Csrrci = tested (csr_name csr_op.Csrrci) refl

amo_line : (op : AmoOp) → IsLine (amo_name op)
amo_line amo_op.Swap = tested (amo_name amo_op.Swap) refl
amo_line amo_op.Add = tested (amo_name amo_op.Add) refl
amo_line amo_op.Xor = tested (amo_name amo_op.Xor) refl
amo_line amo_op.And = tested (amo_name amo_op.And) refl
amo_line amo_op.Or = tested (amo_name amo_op.Or) refl
amo_line amo_op.Min = tested (amo_name amo_op.Min) refl
amo_line amo_op.Max = tested (amo_name amo_op.Max) refl
amo_line amo_op.Minu = tested (amo_name amo_op.Minu) refl
amo_line amo_op.Maxu = tested (amo_name amo_op.Maxu) refl

before_line : (op : CsrOp) → IsLine (csr_before op)
before_line csr_op.Csrrw = tested (csr_before csr_op.Csrrw) refl
before_line csr_op.Csrrs = tested (csr_before csr_op.Csrrs) refl
before_line csr_op.Csrrc = tested (csr_before csr_op.Csrrc) refl
before_line csr_op.Csrrwi = tested (csr_before csr_op.Csrrwi) refl
before_line csr_op.Csrrsi = tested (csr_before csr_op.Csrrsi) refl
before_line csr_op.Csrrci = tested (csr_before csr_op.Csrrci) refl

pub text_line : (i : Instr) → Fits i → IsLine (text i)
text_line (Upper op rd imm) f = hexed (upper_name op) rd (imm / 2 ^ 12) (upper_line op) (wide rd f.0) (let l = f.2 in omega (arith, l))
text_line (Jal rd offset) f = numbered (codes "jal") rd offset (tested (codes "jal") refl) (wide rd f.0) (wider_size (size_of offset) (size_20 offset f.1))
text_line (Jalr rd rs1 offset) f =
    place (codes "jalr") rd offset rs1 (tested (codes "jalr") refl) (wide rd f.0) (wider_size (size_of offset) (size_11 offset f.2)) (wide rs1 f.1)
text_line (Branch op rs1 rs2 offset) f =
    two_and_number (branch_name op) rs1 rs2 offset (branch_line op) (wide rs1 f.0) (wide rs2 f.1) (wider_size (size_of offset) (size_12 offset f.2))
text_line (Load op rd rs1 offset) f =
    place (load_name op) rd offset rs1 (load_line op) (wide rd f.0) (wider_size (size_of offset) (size_11 offset f.2)) (wide rs1 f.1)
text_line (Store op rs1 rs2 offset) f =
    place (store_name op) rs2 offset rs1 (store_line op) (wide rs2 f.1) (wider_size (size_of offset) (size_11 offset f.2)) (wide rs1 f.0)
text_line (Imm op rd rs1 imm) f =
    two_and_number (imm_name op) rd rs1 imm (imm_line op) (wide rd f.0) (wide rs1 f.1) (wider_size (size_of imm) (size_11 imm f.2))
text_line (Shift op rd rs1 amount) f = two_and_number (shift_name op) rd rs1 (pos amount) (shift_line op) (wide rd f.0) (wide rs1 f.1) (wide amount f.2)
text_line (Reg op rd rs1 rs2) f = three (reg_name op) rd rs1 rs2 (reg_line op) (wide rd f.0) (wide rs1 f.1) (wide rs2 f.2)
text_line (Fence word) f = worded (codes "fence") word (tested (codes "fence") refl) f.1
text_line (FenceI word) f = worded (codes "fence.i") word (tested (codes "fence.i") refl) f.1
text_line Ecall f = tested (codes "ecall") refl
text_line Ebreak f = tested (codes "ebreak") refl
text_line Mret f = tested (codes "mret") refl
text_line Wfi f = tested (codes "wfi") refl
text_line (Csr op rd rs1 n) f = csr_number (csr_name op) (csr_before op) rd n rs1 (csr_line op) (before_line op) (wide rd f.0) f.2 (wide rs1 f.1)
text_line (LoadReserved rd rs1 order) f = address (codes "lr.w") order rd rs1 (tested (codes "lr.w") refl) f.2 (wide rd f.0) (wide rs1 f.1)
text_line (StoreConditional rd rs1 rs2 order) f =
    two_and_address (codes "sc.w") order rd rs2 rs1 (tested (codes "sc.w") refl) f.3 (wide rd f.0) (wide rs2 f.2) (wide rs1 f.1)
text_line (Amo op rd rs1 rs2 order) f = two_and_address (amo_name op) order rd rs2 rs1 (amo_line op) f.3 (wide rd f.0) (wide rs2 f.2) (wide rs1 f.1)

pub line_clean : (l : Line) → LineFits l → IsLine (line_text l)
line_clean (Text i) f = text_line i f
line_clean (Word w) f = worded (codes ".word") w (tested (codes ".word") refl) f
