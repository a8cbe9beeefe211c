-- The word of an instruction, by its fields.
use Rattle.std.proofs.Common.{◌≡◌, ℕ, ◌+◌, ◌*◌, ◌/◌, ◌%◌, ◌^◌, ◌<◌, refl, sym, ◌∙◌, arith}
use Rattle.std.proofs.lemmas.Bool.{eqb-true}
use Rattle.std.specs.Prelude.{bit_and, Some}
use Rattle.std.proofs.lemmas.Nat.{and_mask}
use Rattle.std.proofs.lemmas.Bool.Decides.{nat_tests}
use Rattle.rv_decode.specs.Table.{table, meaning, rd_of, rs1_of, rs2_of, order_of, field, signed_field, imm_i, imm_s, imm_b, imm_j, upper, jal, load_reserved}
use Rattle.rv_decode.specs.declared.Instr.{Instr}
use Rattle.rv_decode.specs.Encoding.{low_bits, upper_bits, with_imm_s, with_imm_b, encoded}
use Rattle.rv_decode.proofs.Groups.{opcode_and_funct3, with_funct7, with_funct5, with_rs2, mod_small}
use Rattle.rv_decode.proofs.Back.{◌▸◌, from_table}
use Rattle.rv_decode.specs.declared.UpperOp.{UpperOp}
use Rattle.rv_decode.specs.declared.UpperOp.TheVariants as upper_op

-- the bits of a signed_field number and back
bits_of_12 : (n : ℕ) → n < 2 ^ 12 → low_bits 12 (signed_field 12 n) ≡ n
bits_of_12 n h = grind (arith, nat_tests)

bits_of_13 : (n : ℕ) → n < 2 ^ 13 → low_bits 13 (signed_field 13 n) ≡ n
bits_of_13 n h = grind (arith, nat_tests)

bits_of_21 : (n : ℕ) → n < 2 ^ 21 → low_bits 21 (signed_field 21 n) ≡ n
bits_of_21 n h = grind (arith, nat_tests)

-- a word is its row's bits and its fields
module _ (w : ℕ) (b : w < 2 ^ 32) where
  opcode_part : (m : ℕ) → bit_and w 0x7F ≡ m → w % 2 ^ 7 ≡ m
  opcode_part m e = sym (and_mask w 7) ∙ e

  funct3_part : (m : ℕ) → bit_and w 0x707F ≡ m → w / 2 ^ 12 % 8 * 4096 + w % 2 ^ 7 ≡ m
  funct3_part m e = omega (arith, opcode_and_funct3 w, and_mask w 7, e)

  funct7_part : (m : ℕ) → bit_and w 0xFE00707F ≡ m → w / 2 ^ 25 % 2 ^ 7 * 2 ^ 25 + w / 2 ^ 12 % 8 * 4096 + w % 2 ^ 7 ≡ m
  funct7_part m e = omega (arith, with_funct7 w, opcode_and_funct3 w, and_mask w 7, e)

  funct5_part : (m : ℕ) → bit_and w 0xF800707F ≡ m → w / 2 ^ 27 % 2 ^ 5 * 2 ^ 27 + w / 2 ^ 12 % 8 * 4096 + w % 2 ^ 7 ≡ m
  funct5_part m e = omega (arith, with_funct5 w, opcode_and_funct3 w, and_mask w 7, e)

  rs2_part : (m : ℕ) → bit_and w 0xF9F0707F ≡ m → w / 2 ^ 27 % 2 ^ 5 * 2 ^ 27 + w / 2 ^ 20 % 2 ^ 5 * 2 ^ 20 + w / 2 ^ 12 % 8 * 4096 + w % 2 ^ 7 ≡ m
  rs2_part m e = omega (arith, with_rs2 w, opcode_and_funct3 w, and_mask w 7, e)

  back_upper : (op : UpperOp) → bit_and w 0x7F ≡ upper_bits op → encoded (upper op w) ≡ w
  back_upper op e = omega (arith, opcode_part (upper_bits op) e)

  back_jal : bit_and w 0x7F ≡ 0x6F → encoded (jal w) ≡ w
  back_jal e =
      let n = field 31 1 w * 2 ^ 20 + field 12 8 w * 2 ^ 12 + field 20 1 w * 2 ^ 11 + field 21 10 w * 2 in
      let k : low_bits 21 (imm_j w) ≡ field 31 1 w * 2 ^ 20 + field 12 8 w * 2 ^ 12 + field 20 1 w * 2 ^ 11 + field 21 10 w * 2 =
      bits_of_21 (field 31 1 w * 2 ^ 20 + field 12 8 w * 2 ^ 12 + field 20 1 w * 2 ^ 11 + field 21 10 w * 2) (omega arith) in
      rw k (omega (arith, opcode_part 0x6F e))

  back_i : (m : ℕ) → bit_and w 0x707F ≡ m → m + rd_of w * 2 ^ 7 + rs1_of w * 2 ^ 15 + low_bits 12 (imm_i w) * 2 ^ 20 ≡ w
  back_i m e =
      let k : low_bits 12 (imm_i w) ≡ field 20 12 w = bits_of_12 (field 20 12 w) (omega arith) in
      rw k (omega (arith, funct3_part m e))

  back_branch : (m : ℕ) → bit_and w 0x707F ≡ m → m + rs1_of w * 2 ^ 15 + rs2_of w * 2 ^ 20 + with_imm_b (low_bits 13 (imm_b w)) ≡ w
  back_branch m e =
      let k : low_bits 13 (imm_b w) ≡ field 31 1 w * 2 ^ 12 + field 7 1 w * 2 ^ 11 + field 25 6 w * 2 ^ 5 + field 8 4 w * 2 =
      bits_of_13 (field 31 1 w * 2 ^ 12 + field 7 1 w * 2 ^ 11 + field 25 6 w * 2 ^ 5 + field 8 4 w * 2) (omega arith) in
      rw k (omega (arith, funct3_part m e))

  back_store : (m : ℕ) → bit_and w 0x707F ≡ m → m + rs1_of w * 2 ^ 15 + rs2_of w * 2 ^ 20 + with_imm_s (low_bits 12 (imm_s w)) ≡ w
  back_store m e =
      let k : low_bits 12 (imm_s w) ≡ field 25 7 w * 2 ^ 5 + field 7 5 w = bits_of_12 (field 25 7 w * 2 ^ 5 + field 7 5 w) (omega arith) in
      rw k (omega (arith, funct3_part m e))

  back_reg : (m : ℕ) → bit_and w 0xFE00707F ≡ m → m + rd_of w * 2 ^ 7 + rs1_of w * 2 ^ 15 + rs2_of w * 2 ^ 20 ≡ w
  back_reg m e = omega (arith, funct7_part m e)

  back_csr : (m : ℕ) → bit_and w 0x707F ≡ m → m + rd_of w * 2 ^ 7 + rs1_of w * 2 ^ 15 + field 20 12 w * 2 ^ 20 ≡ w
  back_csr m e = omega (arith, funct3_part m e)

  back_reserved : bit_and w 0xF9F0707F ≡ 0x1000202F → encoded (load_reserved w) ≡ w
  back_reserved e = omega (arith, rs2_part 0x1000202F e)

  back_amo : (m : ℕ) → bit_and w 0xF800707F ≡ m → m + rd_of w * 2 ^ 7 + rs1_of w * 2 ^ 15 + rs2_of w * 2 ^ 20 + order_of w * 2 ^ 25 ≡ w
  back_amo m e = omega (arith, funct5_part m e)

  back_whole : (m : ℕ) → bit_and w 0xFFFFFFFF ≡ m → m ≡ w
  back_whole m e = sym e ∙ and_mask w 32 ∙ mod_small w b

-- the word of what a word means is that word
pub meaning_encoded : (w : ℕ) (i : Instr) → w < 2 ^ 32 → meaning w ≡ Some i → encoded i ≡ w
unfolding table
meaning_encoded w i b h =
    from_table (λ i. encoded i ≡ w) w
    ((λ m. back_upper w b upper_op.Lui (eqb-true _ _ m)) ▸ (λ m. back_upper w b upper_op.Auipc (eqb-true _ _ m))
    ▸ (λ m. back_jal w b (eqb-true _ _ m)) ▸ (λ m. back_i w b 0x67 (eqb-true _ _ m)) ▸ (λ m. back_branch w b 0x63 (eqb-true _ _ m))
    ▸ (λ m. back_branch w b 0x1063 (eqb-true _ _ m)) ▸ (λ m. back_branch w b 0x4063 (eqb-true _ _ m)) ▸ (λ m. back_branch w b 0x5063 (eqb-true _ _ m))
    ▸ (λ m. back_branch w b 0x6063 (eqb-true _ _ m)) ▸ (λ m. back_branch w b 0x7063 (eqb-true _ _ m)) ▸ (λ m. back_i w b 0x3 (eqb-true _ _ m))
    ▸ (λ m. back_i w b 0x1003 (eqb-true _ _ m)) ▸ (λ m. back_i w b 0x2003 (eqb-true _ _ m)) ▸ (λ m. back_i w b 0x4003 (eqb-true _ _ m))
    ▸ (λ m. back_i w b 0x5003 (eqb-true _ _ m)) ▸ (λ m. back_store w b 0x23 (eqb-true _ _ m)) ▸ (λ m. back_store w b 0x1023 (eqb-true _ _ m))
    ▸ (λ m. back_store w b 0x2023 (eqb-true _ _ m)) ▸ (λ m. back_i w b 0x13 (eqb-true _ _ m)) ▸ (λ m. back_i w b 0x2013 (eqb-true _ _ m))
    ▸ (λ m. back_i w b 0x3013 (eqb-true _ _ m)) ▸ (λ m. back_i w b 0x4013 (eqb-true _ _ m)) ▸ (λ m. back_i w b 0x6013 (eqb-true _ _ m))
    ▸ (λ m. back_i w b 0x7013 (eqb-true _ _ m)) ▸ (λ m. back_reg w b 0x1013 (eqb-true _ _ m)) ▸ (λ m. back_reg w b 0x5013 (eqb-true _ _ m))
    ▸ (λ m. back_reg w b 0x40005013 (eqb-true _ _ m)) ▸ (λ m. back_reg w b 0x33 (eqb-true _ _ m)) ▸ (λ m. back_reg w b 0x40000033 (eqb-true _ _ m))
    ▸ (λ m. back_reg w b 0x1033 (eqb-true _ _ m)) ▸ (λ m. back_reg w b 0x2033 (eqb-true _ _ m)) ▸ (λ m. back_reg w b 0x3033 (eqb-true _ _ m))
    ▸ (λ m. back_reg w b 0x4033 (eqb-true _ _ m)) ▸ (λ m. back_reg w b 0x5033 (eqb-true _ _ m)) ▸ (λ m. back_reg w b 0x40005033 (eqb-true _ _ m))
    ▸ (λ m. back_reg w b 0x6033 (eqb-true _ _ m)) ▸ (λ m. back_reg w b 0x7033 (eqb-true _ _ m)) ▸ (λ m. back_reg w b 0x2000033 (eqb-true _ _ m))
    ▸ (λ m. back_reg w b 0x2001033 (eqb-true _ _ m)) ▸ (λ m. back_reg w b 0x2002033 (eqb-true _ _ m)) ▸ (λ m. back_reg w b 0x2003033 (eqb-true _ _ m))
    ▸ (λ m. back_reg w b 0x2004033 (eqb-true _ _ m)) ▸ (λ m. back_reg w b 0x2005033 (eqb-true _ _ m)) ▸ (λ m. back_reg w b 0x2006033 (eqb-true _ _ m))
    ▸ (λ m. back_reg w b 0x2007033 (eqb-true _ _ m)) ▸ (λ _. refl) ▸ (λ _. refl) ▸ (λ m. back_whole w b 0x73 (eqb-true _ _ m))
    ▸ (λ m. back_whole w b 0x100073 (eqb-true _ _ m)) ▸ (λ m. back_whole w b 0x30200073 (eqb-true _ _ m))
    ▸ (λ m. back_whole w b 0x10500073 (eqb-true _ _ m)) ▸ (λ m. back_csr w b 0x1073 (eqb-true _ _ m)) ▸ (λ m. back_csr w b 0x2073 (eqb-true _ _ m))
    ▸ (λ m. back_csr w b 0x3073 (eqb-true _ _ m)) ▸ (λ m. back_csr w b 0x5073 (eqb-true _ _ m)) ▸ (λ m. back_csr w b 0x6073 (eqb-true _ _ m))
    ▸ (λ m. back_csr w b 0x7073 (eqb-true _ _ m)) ▸ (λ m. back_reserved w b (eqb-true _ _ m)) ▸ (λ m. back_amo w b 0x1800202f (eqb-true _ _ m))
    ▸ (λ m. back_amo w b 0x800202f (eqb-true _ _ m)) ▸ (λ m. back_amo w b 0x202f (eqb-true _ _ m)) ▸ (λ m. back_amo w b 0x2000202f (eqb-true _ _ m))
    ▸ (λ m. back_amo w b 0x6000202f (eqb-true _ _ m)) ▸ (λ m. back_amo w b 0x4000202f (eqb-true _ _ m))
    ▸ (λ m. back_amo w b 0x8000202f (eqb-true _ _ m)) ▸ (λ m. back_amo w b 0xa000202f (eqb-true _ _ m))
    ▸ (λ m. back_amo w b 0xc000202f (eqb-true _ _ m)) ▸ (λ m. back_amo w b 0xe000202f (eqb-true _ _ m)) ▸ tt)
    i h
