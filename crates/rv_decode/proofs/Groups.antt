-- What a word means, by its opcode and the fields that its form reads.
use Rattle.std.proofs.Common.{◌≡◌, ℕ, ◌+◌, ◌*◌, ◌/◌, ◌%◌, ◌^◌, ◌<◌, false, [], ◌∷◌, refl, ap, sym, ◌∙◌, arith, zero, suc, subst, lit<}
use Rattle.std.specs.Prelude.{bit_and, Option, Some, None, ◌≢◌, ◌==◌}
use Rattle.std.specs.List.{list_any}
use Rattle.std.specs.Option.{option_map}
use Rattle.std.specs.Int.Bits.{and_block, and_zero_r}
use Rattle.std.proofs.lemmas.Nat.{and_mask, shr_split, mod_below, pow_pos}
use Rattle.std.proofs.lemmas.Nat.Bits.{and_high}
use Rattle.std.proofs.lemmas.Bool.{cases_eq}
use Rattle.std.proofs.Common.{inl, inr}
use Rattle.std.proofs.lemmas.Bool.Decides.{nat_tests}
use Rattle.rv_decode.specs.Table.{table, meaning, field, load, reg, branch, store, imm, shift, csr, amo, rs2_of, upper, jal, jalr, load_reserved}
use Rattle.rv_decode.specs.Table.{store_conditional}
use Rattle.rv_decode.specs.Ops.{load_op_of, reg_op_of, branch_op_of, store_op_of, imm_op_of, shift_op_of, csr_op_of, amo_op_of}
use Rattle.rv_decode.specs.declared.Instr.{Instr}
use Rattle.rv_decode.specs.declared.Instr.TheVariants.{Fence, FenceI, Ecall, Ebreak, Mret, Wfi}
use Rattle.rv_decode.specs.declared.UpperOp.TheVariants.{Lui, Auipc}
use Rattle.rv_decode.proofs.Rows.{settle, none_of}

-- a mask in two parts
pub and_parts : (k w hi lo : ℕ) → lo < 2 ^ k → bit_and w (hi * 2 ^ k + lo) ≡ bit_and (w / 2 ^ k) hi * 2 ^ k + bit_and (w % 2 ^ k) lo
and_parts k w hi lo h =
    ap (λ x. bit_and x (hi * 2 ^ k + lo)) (sym (shr_split w k)) ∙ and_block k (w / 2 ^ k) hi (w % 2 ^ k) lo (mod_below w (2 ^ k) (pow_pos k)) h

pub below_8 : (P : ℕ → Type 0) → P 0 → P 1 → P 2 → P 3 → P 4 → P 5 → P 6 → P 7 → (n : ℕ) → n < 8 → P n
below_8 P a b c d e f g h zero l = a
below_8 P a b c d e f g h (suc zero) l = b
below_8 P a b c d e f g h (suc (suc zero)) l = c
below_8 P a b c d e f g h (suc (suc (suc zero))) l = d
below_8 P a b c d e f g h (suc (suc (suc (suc zero)))) l = e
below_8 P a b c d e f g h (suc (suc (suc (suc (suc zero))))) l = f
below_8 P a b c d e f g h (suc (suc (suc (suc (suc (suc zero)))))) l = g
below_8 P a b c d e f g h (suc (suc (suc (suc (suc (suc (suc zero))))))) l = h
below_8 P a b c d e f g h (suc (suc (suc (suc (suc (suc (suc (suc n)))))))) l = absurd (omega arith)

zero_part : (k m : ℕ) → 0 * 2 ^ k + m ≡ m
zero_part k m = omega arith

low_mask : (k w m : ℕ) → m < 2 ^ k → bit_and (w % 2 ^ k) m ≡ bit_and w m
low_mask k w m h =
    let e : bit_and w m ≡ bit_and (w / 2 ^ k) 0 * 2 ^ k + bit_and (w % 2 ^ k) m =
    subst (λ x. bit_and w x ≡ bit_and (w / 2 ^ k) 0 * 2 ^ k + bit_and (w % 2 ^ k) m) (zero_part k m) (and_parts k w 0 m h) in
    let z : bit_and (w / 2 ^ k) 0 ≡ 0 = and_zero_r (w / 2 ^ k) in
    sym (e ∙ ap (λ x. x * 2 ^ k + bit_and (w % 2 ^ k) m) z ∙ zero_part k (bit_and (w % 2 ^ k) m))

pub opcode_and_funct3 : (w : ℕ) → bit_and w 0x707F ≡ field 12 3 w * 4096 + bit_and w 0x7F
opcode_and_funct3 w =
    let a : bit_and (w / 2 ^ 12) 7 ≡ w / 2 ^ 12 % 2 ^ 3 = and_mask (w / 2 ^ 12) 3 in
    let b : bit_and (w % 2 ^ 12) 127 ≡ w % 2 ^ 12 % 2 ^ 7 = and_mask (w % 2 ^ 12) 7 in
    let c : bit_and w 127 ≡ w % 2 ^ 7 = and_mask w 7 in
    let d : bit_and w 0x707F ≡ bit_and (w / 2 ^ 12) 7 * 2 ^ 12 + bit_and (w % 2 ^ 12) 127 = and_parts 12 w 7 127 (lit< tt) in
    omega arith

-- funct7 above opcode and funct3
pub with_funct7 : (w : ℕ) → bit_and w 0xFE00707F ≡ field 25 7 w * 2 ^ 25 + bit_and w 0x707F
with_funct7 w =
    let a : bit_and (w / 2 ^ 25) 127 ≡ w / 2 ^ 25 % 2 ^ 7 = and_mask (w / 2 ^ 25) 7 in
    let b : bit_and (w % 2 ^ 25) 0x707F ≡ bit_and w 0x707F = low_mask 25 w 0x707F (lit< tt) in
    let d : bit_and w 0xFE00707F ≡ bit_and (w / 2 ^ 25) 127 * 2 ^ 25 + bit_and (w % 2 ^ 25) 0x707F = and_parts 25 w 127 0x707F (lit< tt) in
    omega arith

-- funct5 above opcode and funct3
pub with_funct5 : (w : ℕ) → bit_and w 0xF800707F ≡ field 27 5 w * 2 ^ 27 + bit_and w 0x707F
with_funct5 w =
    let a : bit_and (w / 2 ^ 27) 31 ≡ w / 2 ^ 27 % 2 ^ 5 = and_mask (w / 2 ^ 27) 5 in
    let b : bit_and (w % 2 ^ 27) 0x707F ≡ bit_and w 0x707F = low_mask 27 w 0x707F (lit< tt) in
    let d : bit_and w 0xF800707F ≡ bit_and (w / 2 ^ 27) 31 * 2 ^ 27 + bit_and (w % 2 ^ 27) 0x707F = and_parts 27 w 31 0x707F (lit< tt) in
    omega arith

-- the second source between
pub with_rs2 : (w : ℕ) → bit_and w 0xF9F0707F ≡ field 27 5 w * 2 ^ 27 + field 20 5 w * 2 ^ 20 + bit_and w 0x707F
with_rs2 w =
    let a : bit_and (w / 2 ^ 20) 0xF9F ≡ bit_and (w / 2 ^ 20 / 2 ^ 7) 31 * 2 ^ 7 + bit_and (w / 2 ^ 20 % 2 ^ 7) 31 = and_parts 7 (w / 2 ^ 20) 31 31 (lit< tt) in
    let b : bit_and (w % 2 ^ 20) 0x707F ≡ bit_and w 0x707F = low_mask 20 w 0x707F (lit< tt) in
    let d : bit_and w 0xF9F0707F ≡ bit_and (w / 2 ^ 20) 0xF9F * 2 ^ 20 + bit_and (w % 2 ^ 20) 0x707F = and_parts 20 w 0xF9F 0x707F (lit< tt) in
    let e : bit_and (w / 2 ^ 20 / 2 ^ 7) 31 ≡ w / 2 ^ 20 / 2 ^ 7 % 2 ^ 5 = and_mask (w / 2 ^ 20 / 2 ^ 7) 5 in
    let f : bit_and (w / 2 ^ 20 % 2 ^ 7) 31 ≡ w / 2 ^ 20 % 2 ^ 7 % 2 ^ 5 = and_mask (w / 2 ^ 20 % 2 ^ 7) 5 in
    omega arith

by_eq : {P : Type 0} (a b : ℕ) → (a ≡ b → P) → (a ≢ b → P) → P
by_eq a b same other = elim (cases_eq a b) [ inl e ↦ same e | inr n ↦ other n ]

-- the bits of funct3 with others that are known settle what a word means
module _ (m base : ℕ) (answer : ℕ → ℕ → Option Instr) where
  unfoldable pub Answers : ℕ → Type 0
  Answers f = (w : ℕ) → bit_and w m ≡ f * 4096 + base → meaning w ≡ answer f w

  pub by_funct3 : Answers 0 → Answers 1 → Answers 2 → Answers 3 → Answers 4 → Answers 5 → Answers 6 → Answers 7 → (w : ℕ)
      → bit_and w m ≡ field 12 3 w * 4096 + base → meaning w ≡ answer (field 12 3 w) w
  unfolding Answers
  by_funct3 a b c d e f g h w k = below_8 Answers a b c d e f g h (field 12 3 w) (mod_below (w / 2 ^ 12) 8 (omega arith)) w k

opcode_known : (op w : ℕ) → bit_and w 0x7F ≡ op → bit_and w 0x707F ≡ field 12 3 w * 4096 + op
opcode_known op w h = opcode_and_funct3 w ∙ ap (λ x. field 12 3 w * 4096 + x) h

load_answer : ℕ → ℕ → Option Instr
load_answer f w = option_map (λ op. load op w) (load_op_of f)

pub loads : (w : ℕ) → bit_and w 0x7F ≡ 0x03 → meaning w ≡ option_map (λ op. load op w) (load_op_of (field 12 3 w))
unfolding table load_answer Answers
loads w h =
    by_funct3 0x707F 0x03 load_answer
    (λ w e. settle 0x707F 0x0003 w e refl)
    (λ w e. settle 0x707F 0x1003 w e refl)
    (λ w e. settle 0x707F 0x2003 w e refl)
    (λ w e. settle 0x707F 0x3003 w e refl)
    (λ w e. settle 0x707F 0x4003 w e refl)
    (λ w e. settle 0x707F 0x5003 w e refl)
    (λ w e. settle 0x707F 0x6003 w e refl)
    (λ w e. settle 0x707F 0x7003 w e refl)
    w (opcode_known 0x03 w h)

branch_answer : ℕ → ℕ → Option Instr
branch_answer f w = option_map (λ op. branch op w) (branch_op_of f)

pub branchs : (w : ℕ) → bit_and w 0x7F ≡ 0x63 → meaning w ≡ option_map (λ op. branch op w) (branch_op_of (field 12 3 w))
unfolding table branch_answer Answers
branchs w h =
    by_funct3 0x707F 0x63 branch_answer
    (λ w e. settle 0x707F 0x0063 w e refl)
    (λ w e. settle 0x707F 0x1063 w e refl)
    (λ w e. settle 0x707F 0x2063 w e refl)
    (λ w e. settle 0x707F 0x3063 w e refl)
    (λ w e. settle 0x707F 0x4063 w e refl)
    (λ w e. settle 0x707F 0x5063 w e refl)
    (λ w e. settle 0x707F 0x6063 w e refl)
    (λ w e. settle 0x707F 0x7063 w e refl)
    w (opcode_known 0x63 w h)

store_answer : ℕ → ℕ → Option Instr
store_answer f w = option_map (λ op. store op w) (store_op_of f)

pub stores : (w : ℕ) → bit_and w 0x7F ≡ 0x23 → meaning w ≡ option_map (λ op. store op w) (store_op_of (field 12 3 w))
unfolding table store_answer Answers
stores w h =
    by_funct3 0x707F 0x23 store_answer
    (λ w e. settle 0x707F 0x0023 w e refl)
    (λ w e. settle 0x707F 0x1023 w e refl)
    (λ w e. settle 0x707F 0x2023 w e refl)
    (λ w e. settle 0x707F 0x3023 w e refl)
    (λ w e. settle 0x707F 0x4023 w e refl)
    (λ w e. settle 0x707F 0x5023 w e refl)
    (λ w e. settle 0x707F 0x6023 w e refl)
    (λ w e. settle 0x707F 0x7023 w e refl)
    w (opcode_known 0x23 w h)

pub imms : (w : ℕ) → bit_and w 0x7F ≡ 0x13 → imm_op_of (field 12 3 w) ≢ None → meaning w ≡ option_map (λ op. imm op w) (imm_op_of (field 12 3 w))
unfolding table
imms w h n =
    below_8 (λ f. bit_and w 0x707F ≡ f * 4096 + 0x13 → imm_op_of f ≢ None → meaning w ≡ option_map (λ op. imm op w) (imm_op_of f))
    (λ e _. settle 0x707F 0x0013 w e refl)
    (λ _ n. absurd (n refl))
    (λ e _. settle 0x707F 0x2013 w e refl)
    (λ e _. settle 0x707F 0x3013 w e refl)
    (λ e _. settle 0x707F 0x4013 w e refl)
    (λ _ n. absurd (n refl))
    (λ e _. settle 0x707F 0x6013 w e refl)
    (λ e _. settle 0x707F 0x7013 w e refl)
    (field 12 3 w) (mod_below (w / 2 ^ 12) 8 (omega arith)) (opcode_known 0x13 w h) n

pub csrs : (w : ℕ) → bit_and w 0x7F ≡ 0x73 → csr_op_of (field 12 3 w) ≢ None → meaning w ≡ option_map (λ op. csr op w) (csr_op_of (field 12 3 w))
unfolding table
csrs w h n =
    below_8 (λ f. bit_and w 0x707F ≡ f * 4096 + 0x73 → csr_op_of f ≢ None → meaning w ≡ option_map (λ op. csr op w) (csr_op_of f))
    (λ _ n. absurd (n refl))
    (λ e _. settle 0x707F 0x1073 w e refl)
    (λ e _. settle 0x707F 0x2073 w e refl)
    (λ e _. settle 0x707F 0x3073 w e refl)
    (λ _ n. absurd (n refl))
    (λ e _. settle 0x707F 0x5073 w e refl)
    (λ e _. settle 0x707F 0x6073 w e refl)
    (λ e _. settle 0x707F 0x7073 w e refl)
    (field 12 3 w) (mod_below (w / 2 ^ 12) 8 (omega arith)) (opcode_known 0x73 w h) n

reg_answer_0 : ℕ → ℕ → Option Instr
reg_answer_0 f w = option_map (λ op. reg op w) (reg_op_of 0 f)

regs_0 : (w : ℕ) → bit_and w 0xFE00707F ≡ field 12 3 w * 4096 + 0x00000033 → meaning w ≡ option_map (λ op. reg op w) (reg_op_of 0 (field 12 3 w))
unfolding table reg_answer_0 Answers
regs_0 w h =
    by_funct3 0xFE00707F 0x00000033 reg_answer_0
    (λ w e. settle 0xFE00707F 0x00000033 w e refl)
    (λ w e. settle 0xFE00707F 0x00001033 w e refl)
    (λ w e. settle 0xFE00707F 0x00002033 w e refl)
    (λ w e. settle 0xFE00707F 0x00003033 w e refl)
    (λ w e. settle 0xFE00707F 0x00004033 w e refl)
    (λ w e. settle 0xFE00707F 0x00005033 w e refl)
    (λ w e. settle 0xFE00707F 0x00006033 w e refl)
    (λ w e. settle 0xFE00707F 0x00007033 w e refl)
    w h

reg_answer_1 : ℕ → ℕ → Option Instr
reg_answer_1 f w = option_map (λ op. reg op w) (reg_op_of 1 f)

regs_1 : (w : ℕ) → bit_and w 0xFE00707F ≡ field 12 3 w * 4096 + 0x02000033 → meaning w ≡ option_map (λ op. reg op w) (reg_op_of 1 (field 12 3 w))
unfolding table reg_answer_1 Answers
regs_1 w h =
    by_funct3 0xFE00707F 0x02000033 reg_answer_1
    (λ w e. settle 0xFE00707F 0x02000033 w e refl)
    (λ w e. settle 0xFE00707F 0x02001033 w e refl)
    (λ w e. settle 0xFE00707F 0x02002033 w e refl)
    (λ w e. settle 0xFE00707F 0x02003033 w e refl)
    (λ w e. settle 0xFE00707F 0x02004033 w e refl)
    (λ w e. settle 0xFE00707F 0x02005033 w e refl)
    (λ w e. settle 0xFE00707F 0x02006033 w e refl)
    (λ w e. settle 0xFE00707F 0x02007033 w e refl)
    w h

reg_answer_32 : ℕ → ℕ → Option Instr
reg_answer_32 f w = option_map (λ op. reg op w) (reg_op_of 32 f)

regs_32 : (w : ℕ) → bit_and w 0xFE00707F ≡ field 12 3 w * 4096 + 0x40000033 → meaning w ≡ option_map (λ op. reg op w) (reg_op_of 32 (field 12 3 w))
unfolding table reg_answer_32 Answers
regs_32 w h =
    by_funct3 0xFE00707F 0x40000033 reg_answer_32
    (λ w e. settle 0xFE00707F 0x40000033 w e refl)
    (λ w e. settle 0xFE00707F 0x40001033 w e refl)
    (λ w e. settle 0xFE00707F 0x40002033 w e refl)
    (λ w e. settle 0xFE00707F 0x40003033 w e refl)
    (λ w e. settle 0xFE00707F 0x40004033 w e refl)
    (λ w e. settle 0xFE00707F 0x40005033 w e refl)
    (λ w e. settle 0xFE00707F 0x40006033 w e refl)
    (λ w e. settle 0xFE00707F 0x40007033 w e refl)
    w h

regs_none : (w : ℕ) → bit_and w 0x7F ≡ 0x33 → field 25 7 w ≢ 0 → field 25 7 w ≢ 1 → field 25 7 w ≢ 32 → meaning w ≡ None
unfolding table
regs_none w h n0 n1 n32 =
    let k : bit_and w 0xFE000000 ≡ field 25 7 w * 2 ^ 25 = and_high w 7 25 in
    let e0 : bit_and w 0xFE000000 ≢ 0x0 = λ e. n0 (omega (arith, e, k)) in
    let e1 : bit_and w 0xFE000000 ≢ 0x2000000 = λ e. n1 (omega (arith, e, k)) in
    let e32 : bit_and w 0xFE000000 ≢ 0x40000000 = λ e. n32 (omega (arith, e, k)) in
    none_of 0x7F 0x33 0xFE000000 w (0x0 ∷ 0x2000000 ∷ 0x40000000 ∷ []) h (grind (arith, nat_tests)) refl

reg_op_none : (top f : ℕ) → top ≢ 0 → top ≢ 1 → top ≢ 32 → reg_op_of top f ≡ None
reg_op_none top f n0 n1 n32 =
    let e0 : (top == 0) ≡ false = grind (arith, nat_tests) in
    let e1 : (top == 1) ≡ false = grind (arith, nat_tests) in
    let e32 : (top == 32) ≡ false = grind (arith, nat_tests) in
    simp (e0, e1, e32)

pub regs : (w : ℕ) → bit_and w 0x7F ≡ 0x33 → meaning w ≡ option_map (λ op. reg op w) (reg_op_of (field 25 7 w) (field 12 3 w))
regs w h =
    let k : bit_and w 0xFE00707F ≡ field 25 7 w * 2 ^ 25 + (field 12 3 w * 4096 + 0x33) =
    with_funct7 w ∙ ap (λ x. field 25 7 w * 2 ^ 25 + x) (opcode_known 0x33 w h) in
    let P : ℕ → Type 0 = λ t. meaning w ≡ option_map (λ op. reg op w) (reg_op_of t (field 12 3 w)) in
    by_eq (field 25 7 w) 0 (λ e. subst P (sym e) (regs_0 w (omega (arith, e, k)))) (λ n0.
    by_eq (field 25 7 w) 1 (λ e. subst P (sym e) (regs_1 w (omega (arith, e, k)))) (λ n1.
    by_eq (field 25 7 w) 32 (λ e. subst P (sym e) (regs_32 w (omega (arith, e, k)))) (λ n32.
    regs_none w h n0 n1 n32 ∙ sym (ap (option_map (λ op. reg op w)) (reg_op_none (field 25 7 w) (field 12 3 w) n0 n1 n32)))))

-- jalr and the fences

pub jalr_at : (w : ℕ) → bit_and w 0x7F ≡ 0x67 → field 12 3 w ≡ 0 → meaning w ≡ Some (jalr w)
unfolding table
jalr_at w h z = settle 0x707F 0x67 w (omega (arith, opcode_known 0x67 w h, z)) refl

pub jalr_none : (w : ℕ) → bit_and w 0x7F ≡ 0x67 → field 12 3 w ≢ 0 → meaning w ≡ None
unfolding table
jalr_none w h z =
    let k : bit_and w 0x7000 ≡ field 12 3 w * 4096 = and_high w 3 12 in
    let n : bit_and w 0x7000 ≢ 0 = λ e. z (omega (arith, e, k)) in
    none_of 0x7F 0x67 0x7000 w (0 ∷ []) h (grind (arith, nat_tests)) refl

pub ruleset jalrs = (jalr_at, jalr_none)

pub lui_at : (w : ℕ) → bit_and w 0x7F ≡ 0x37 → meaning w ≡ Some (upper Lui w)
unfolding table
lui_at w h = settle 0x7F 0x37 w h refl

pub auipc_at : (w : ℕ) → bit_and w 0x7F ≡ 0x17 → meaning w ≡ Some (upper Auipc w)
unfolding table
auipc_at w h = settle 0x7F 0x17 w h refl

pub jal_at : (w : ℕ) → bit_and w 0x7F ≡ 0x6F → meaning w ≡ Some (jal w)
unfolding table
jal_at w h = settle 0x7F 0x6F w h refl

pub no_opcode : (w : ℕ) → list_any (λ x. bit_and w 0x7F == x) (0x37 ∷ 0x17 ∷ 0x6F ∷ 0x67 ∷ 0x63 ∷ 0x03 ∷ 0x23 ∷ 0x13 ∷ 0x33 ∷ 0x0F ∷ 0x73 ∷ 0x2F ∷ []) ≡ false
    → meaning w ≡ None
unfolding table
no_opcode w h = none_of 0 0 0x7F w (0x37 ∷ 0x17 ∷ 0x6F ∷ 0x67 ∷ 0x63 ∷ 0x03 ∷ 0x23 ∷ 0x13 ∷ 0x33 ∷ 0x0F ∷ 0x73 ∷ 0x2F ∷ []) (and_zero_r w) h refl

pub ruleset opcodes = (lui_at, auipc_at, jal_at, no_opcode, nat_tests)

pub fence_at : (w : ℕ) → bit_and w 0x7F ≡ 0x0F → field 12 3 w ≡ 0 → meaning w ≡ Some (Fence w)
unfolding table
fence_at w h z = settle 0x707F 0x0F w (omega (arith, opcode_known 0x0F w h, z)) refl

pub fence_i_at : (w : ℕ) → bit_and w 0x7F ≡ 0x0F → field 12 3 w ≡ 1 → meaning w ≡ Some (FenceI w)
unfolding table
fence_i_at w h z = settle 0x707F 0x100F w (omega (arith, opcode_known 0x0F w h, z)) refl

pub fence_none : (w : ℕ) → bit_and w 0x7F ≡ 0x0F → field 12 3 w ≢ 0 → field 12 3 w ≢ 1 → meaning w ≡ None
unfolding table
fence_none w h z o =
    let k : bit_and w 0x7000 ≡ field 12 3 w * 4096 = and_high w 3 12 in
    let n : bit_and w 0x7000 ≢ 0 = λ e. z (omega (arith, e, k)) in
    let m : bit_and w 0x7000 ≢ 0x1000 = λ e. o (omega (arith, e, k)) in
    none_of 0x7F 0x0F 0x7000 w (0 ∷ 0x1000 ∷ []) h (grind (arith, nat_tests)) refl

pub ruleset fences = (fence_at, fence_i_at, fence_none)

pub mod_small : (w : ℕ) → w < 2 ^ 32 → w % 2 ^ 32 ≡ w
mod_small w b = omega arith

pub ecall_at : meaning 0x73 ≡ Some Ecall
unfolding table
ecall_at = settle 0xFFFFFFFF 0x73 0x73 refl refl

pub ebreak_at : meaning 0x100073 ≡ Some Ebreak
unfolding table
ebreak_at = settle 0xFFFFFFFF 0x100073 0x100073 refl refl

pub mret_at : meaning 0x30200073 ≡ Some Mret
unfolding table
mret_at = settle 0xFFFFFFFF 0x30200073 0x30200073 refl refl

pub wfi_at : meaning 0x10500073 ≡ Some Wfi
unfolding table
wfi_at = settle 0xFFFFFFFF 0x10500073 0x10500073 refl refl

-- without a CSR instruction's funct3 there are four words
pub environment_none : (w : ℕ) → w < 2 ^ 32 → bit_and w 0x7F ≡ 0x73 → csr_op_of (field 12 3 w) ≡ None → w ≢ 0x73 → w ≢ 0x100073 → w ≢ 0x30200073
    → w ≢ 0x10500073 → meaning w ≡ None
unfolding table
environment_none w b h c a1 a2 a3 a4 =
    let k : bit_and w 0xFFFFFFFF ≡ w = and_mask w 32 ∙ mod_small w b in
    let n : list_any (λ x. bit_and w 0xFFFFFFFF == x) (0x73 ∷ 0x100073 ∷ 0x30200073 ∷ 0x10500073 ∷ []) ≡ false = grind (arith, nat_tests) in
    below_8 (λ f. bit_and w 0x707F ≡ f * 4096 + 0x73 → csr_op_of f ≡ None → meaning w ≡ None)
    (λ e _. none_of 0x707F 0x73 0xFFFFFFFF w (0x73 ∷ 0x100073 ∷ 0x30200073 ∷ 0x10500073 ∷ []) e n refl)
    (λ _ g. cc) (λ _ g. cc) (λ _ g. cc)
    (λ e _. settle 0x707F 0x4073 w e refl)
    (λ _ g. cc) (λ _ g. cc) (λ _ g. cc)
    (field 12 3 w) (mod_below (w / 2 ^ 12) 8 (omega arith)) (opcode_known 0x73 w h) c

pub ruleset environments = (ecall_at, ebreak_at, mret_at, wfi_at, environment_none)

shift_none_1 : (top : ℕ) → top ≢ 0 → shift_op_of top 1 ≡ None
shift_none_1 top n = grind (arith, nat_tests)

shift_at_1 : (w top : ℕ) → bit_and w 0xFE00707F ≡ top * 2 ^ 25 + 0x1013 → bit_and w 0xFE000000 ≡ top * 2 ^ 25 → bit_and w 0x707F ≡ 0x1013
    → meaning w ≡ option_map (λ op. shift op w) (shift_op_of top 1)
unfolding table
shift_at_1 w top h k l =
    by_eq top 0 (λ e. subst (λ t. meaning w ≡ option_map (λ op. shift op w) (shift_op_of t 1)) (sym e)
    (settle 0xFE00707F 0x1013 w (omega (arith, h, e)) refl)) (λ n.
    let m : bit_and w 0xFE000000 ≢ 0 = λ e. n (omega (arith, e, k)) in
    let t : (top == 0) ≡ false = grind (arith, nat_tests) in
    none_of 0x707F 0x1013 0xFE000000 w (0 ∷ []) l (grind (arith, nat_tests)) refl ∙ sym (ap (option_map (λ op. shift op w)) (shift_none_1 top n)))

shift_none_5 : (top : ℕ) → top ≢ 0 → top ≢ 32 → shift_op_of top 5 ≡ None
shift_none_5 top n m = grind (arith, nat_tests)

shift_at_5 : (w top : ℕ) → bit_and w 0xFE00707F ≡ top * 2 ^ 25 + 0x5013 → bit_and w 0xFE000000 ≡ top * 2 ^ 25 → bit_and w 0x707F ≡ 0x5013
    → meaning w ≡ option_map (λ op. shift op w) (shift_op_of top 5)
unfolding table
shift_at_5 w top h k l =
    by_eq top 0 (λ e. subst (λ t. meaning w ≡ option_map (λ op. shift op w) (shift_op_of t 5)) (sym e)
    (settle 0xFE00707F 0x5013 w (omega (arith, h, e)) refl)) (λ n.
    by_eq top 32 (λ e. subst (λ t. meaning w ≡ option_map (λ op. shift op w) (shift_op_of t 5)) (sym e)
    (settle 0xFE00707F 0x40005013 w (omega (arith, h, e)) refl)) (λ n'.
    let m : bit_and w 0xFE000000 ≢ 0 = λ e. n (omega (arith, e, k)) in
    let m' : bit_and w 0xFE000000 ≢ 0x40000000 = λ e. n' (omega (arith, e, k)) in
    none_of 0x707F 0x5013 0xFE000000 w (0 ∷ 0x40000000 ∷ []) l (grind (arith, nat_tests)) refl
    ∙ sym (ap (option_map (λ op. shift op w)) (shift_none_5 top n n'))))

pub shifts : (w : ℕ) → bit_and w 0x7F ≡ 0x13 → imm_op_of (field 12 3 w) ≡ None
    → meaning w ≡ option_map (λ op. shift op w) (shift_op_of (field 25 7 w) (field 12 3 w))
shifts w h c =
    let k : bit_and w 0xFE000000 ≡ field 25 7 w * 2 ^ 25 = and_high w 7 25 in
    let j : bit_and w 0xFE00707F ≡ field 25 7 w * 2 ^ 25 + bit_and w 0x707F = with_funct7 w in
    below_8 (λ f. bit_and w 0x707F ≡ f * 4096 + 0x13 → imm_op_of f ≡ None → meaning w ≡ option_map (λ op. shift op w) (shift_op_of (field 25 7 w) f))
    (λ _ g. cc)
    (λ e _. shift_at_1 w (field 25 7 w) (omega (arith, j, e)) k e)
    (λ _ g. cc) (λ _ g. cc) (λ _ g. cc)
    (λ e _. shift_at_5 w (field 25 7 w) (omega (arith, j, e)) k e)
    (λ _ g. cc) (λ _ g. cc)
    (field 12 3 w) (mod_below (w / 2 ^ 12) 8 (omega arith)) (opcode_known 0x13 w h) c

pub atomic_none : (w : ℕ) → bit_and w 0x7F ≡ 0x2F → field 12 3 w ≢ 2 → meaning w ≡ None
unfolding table
atomic_none w h z =
    let k : bit_and w 0x7000 ≡ field 12 3 w * 4096 = and_high w 3 12 in
    let n : bit_and w 0x7000 ≢ 0x2000 = λ e. z (omega (arith, e, k)) in
    none_of 0x7F 0x2F 0x7000 w (0x2000 ∷ []) h (grind (arith, nat_tests)) refl

atomic_known : (w : ℕ) → bit_and w 0x7F ≡ 0x2F → field 12 3 w ≡ 2 → bit_and w 0xF800707F ≡ field 27 5 w * 2 ^ 27 + 0x202F
atomic_known w h z = omega (arith, with_funct5 w, opcode_known 0x2F w h, z)

pub load_reserved_at : (w : ℕ) → bit_and w 0x7F ≡ 0x2F → field 12 3 w ≡ 2 → field 27 5 w ≡ 2 → rs2_of w ≡ 0 → meaning w ≡ Some (load_reserved w)
unfolding table
load_reserved_at w h z t s = settle 0xF9F0707F 0x1000202F w (omega (arith, with_rs2 w, opcode_known 0x2F w h, z, t, s)) refl

pub load_reserved_none : (w : ℕ) → bit_and w 0x7F ≡ 0x2F → field 12 3 w ≡ 2 → field 27 5 w ≡ 2 → rs2_of w ≢ 0 → meaning w ≡ None
unfolding table
load_reserved_none w h z t s =
    let k : bit_and w 0x01F00000 ≡ field 20 5 w * 2 ^ 20 = and_high w 5 20 in
    let n : bit_and w 0x01F00000 ≢ 0 = λ e. s (omega (arith, e, k)) in
    none_of 0xF800707F 0x1000202F 0x01F00000 w (0 ∷ []) (omega (arith, atomic_known w h z, t)) (grind (arith, nat_tests)) refl

pub store_conditional_at : (w : ℕ) → bit_and w 0x7F ≡ 0x2F → field 12 3 w ≡ 2 → field 27 5 w ≡ 3 → meaning w ≡ Some (store_conditional w)
unfolding table
store_conditional_at w h z t = settle 0xF800707F 0x1800202F w (omega (arith, atomic_known w h z, t)) refl

amo_op_none : (t : ℕ) → t ≢ 1 → t ≢ 0 → t ≢ 4 → t ≢ 12 → t ≢ 8 → t ≢ 16 → t ≢ 20 → t ≢ 24 → t ≢ 28 → amo_op_of t ≡ None
amo_op_none t n1 n0 n4 n12 n8 n16 n20 n24 n28 = grind (arith, nat_tests)

pub amos : (w : ℕ) → bit_and w 0x7F ≡ 0x2F → field 12 3 w ≡ 2 → field 27 5 w ≢ 2 → field 27 5 w ≢ 3
    → meaning w ≡ option_map (λ op. amo op w) (amo_op_of (field 27 5 w))
unfolding table
amos w h z a b =
    let k : bit_and w 0xF800707F ≡ field 27 5 w * 2 ^ 27 + 0x202F = atomic_known w h z in
    let l : bit_and w 0xF8000000 ≡ field 27 5 w * 2 ^ 27 = and_high w 5 27 in
    let P : ℕ → Type 0 = λ t. meaning w ≡ option_map (λ op. amo op w) (amo_op_of t) in
    let m2 : bit_and w 0xF8000000 ≢ 0x10000000 = λ e. a (omega (arith, e, l)) in
    let m3 : bit_and w 0xF8000000 ≢ 0x18000000 = λ e. b (omega (arith, e, l)) in
    by_eq (field 27 5 w) 1 (λ e. subst P (sym e) (settle 0xF800707F 0x800202f w (omega (arith, e, k)) refl)) (λ n1.
    by_eq (field 27 5 w) 0 (λ e. subst P (sym e) (settle 0xF800707F 0x202f w (omega (arith, e, k)) refl)) (λ n0.
    by_eq (field 27 5 w) 4 (λ e. subst P (sym e) (settle 0xF800707F 0x2000202f w (omega (arith, e, k)) refl)) (λ n4.
    by_eq (field 27 5 w) 12 (λ e. subst P (sym e) (settle 0xF800707F 0x6000202f w (omega (arith, e, k)) refl)) (λ n12.
    by_eq (field 27 5 w) 8 (λ e. subst P (sym e) (settle 0xF800707F 0x4000202f w (omega (arith, e, k)) refl)) (λ n8.
    by_eq (field 27 5 w) 16 (λ e. subst P (sym e) (settle 0xF800707F 0x8000202f w (omega (arith, e, k)) refl)) (λ n16.
    by_eq (field 27 5 w) 20 (λ e. subst P (sym e) (settle 0xF800707F 0xa000202f w (omega (arith, e, k)) refl)) (λ n20.
    by_eq (field 27 5 w) 24 (λ e. subst P (sym e) (settle 0xF800707F 0xc000202f w (omega (arith, e, k)) refl)) (λ n24.
    by_eq (field 27 5 w) 28 (λ e. subst P (sym e) (settle 0xF800707F 0xe000202f w (omega (arith, e, k)) refl)) (λ n28.
    let m1 : bit_and w 0xF8000000 ≢ 0x8000000 = λ e. n1 (omega (arith, e, l)) in
    let m0 : bit_and w 0xF8000000 ≢ 0x0 = λ e. n0 (omega (arith, e, l)) in
    let m4 : bit_and w 0xF8000000 ≢ 0x20000000 = λ e. n4 (omega (arith, e, l)) in
    let m12 : bit_and w 0xF8000000 ≢ 0x60000000 = λ e. n12 (omega (arith, e, l)) in
    let m8 : bit_and w 0xF8000000 ≢ 0x40000000 = λ e. n8 (omega (arith, e, l)) in
    let m16 : bit_and w 0xF8000000 ≢ 0x80000000 = λ e. n16 (omega (arith, e, l)) in
    let m20 : bit_and w 0xF8000000 ≢ 0xa0000000 = λ e. n20 (omega (arith, e, l)) in
    let m24 : bit_and w 0xF8000000 ≢ 0xc0000000 = λ e. n24 (omega (arith, e, l)) in
    let m28 : bit_and w 0xF8000000 ≢ 0xe0000000 = λ e. n28 (omega (arith, e, l)) in
    none_of 0x7F 0x2F 0xF8000000 w (0x10000000 ∷ 0x18000000 ∷ 0x8000000 ∷ 0x0 ∷ 0x20000000 ∷ 0x60000000 ∷ 0x40000000 ∷ 0x80000000 ∷ 0xa0000000 ∷ 0xc0000000 ∷
    0xe0000000 ∷ []) h (grind (arith, nat_tests)) refl
    ∙ sym (ap (option_map (λ op. amo op w)) (amo_op_none (field 27 5 w) n1 n0 n4 n12 n8 n16 n20 n24 n28)))))))))))

pub ruleset atomics = (atomic_none, load_reserved_at, load_reserved_none, store_conditional_at, amos)
