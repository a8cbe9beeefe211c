-- Marks as bits of words.
use Rattle.std.proofs.Common.{ℕ, ◌≡◌, ◌≢◌, ◌+◌, ◌*◌, ◌/◌, ◌%◌, ◌^◌, ◌≤◌, ◌<◌, ◌==◌, true, List, length, set, get_or, sym, ap, ◌∙◌, subst, inl, inr, arith}
use Rattle.std.proofs.Common.{bit_or, w64, length-set, get_or-set_same, get_or-set_other}
use Rattle.std.specs.Int.{bit_at}
use Rattle.std.proofs.lemmas.Bool.{cases_order}
use Rattle.std.proofs.lemmas.Grind.{get_or_default_zero}
use Rattle.std.proofs.lemmas.Nat.Bits.{bit_at_set_same, bit_at_set_other, bit_at_ones}
use Rattle.elf_image.specs.Marks.{is_marked, Skips, AddsMark}

-- a bit set in the word of its place
pub marks_one : (words : List ℕ) (place old : ℕ) → place < 64 * length words → old ≡ get_or words (place / 64) old
    → AddsMark words (set words (place / 64) (bit_or old (1 * 2 ^ (place % 64) % 18446744073709551616))) place
marks_one words place old l e =
    let word = place / 64 in
    let in_words : word < length words = omega (arith, l) in
    let new = bit_or old (1 * 2 ^ (place % 64) % 18446744073709551616) in
    let same_word : get_or (set words word new) word 0 ≡ new = get_or-set_same words word new 0 in_words in
    record {
      size = length-set words word new;
      here = ap (λ n. bit_at n (place % 64) == 1) same_word ∙ ap (λ n. n == 1) (bit_at_set_same w64 old (place % 64) (omega arith));
      others = λ at ne. elim (cases_order (at / 64) word) [
        | inl same ↦
            let other_bit : at % 64 ≢ place % 64 = λ b. ne (omega (arith, b, same)) in
            ap (λ k. bit_at (get_or (set words word new) k 0) (at % 64) == 1) same
            ∙ ap (λ n. bit_at n (at % 64) == 1) same_word
            ∙ ap (λ n. n == 1) (bit_at_set_other w64 old (place % 64) (omega arith) (at % 64) other_bit)
            ∙ ap (λ n. bit_at n (at % 64) == 1) (e ∙ get_or_default_zero words word old in_words ∙ ap (λ k. get_or words k 0) (sym same))
        | inr apart ↦
            let other : at / 64 ≢ word = elim apart [ inl less ↦ omega (arith, less) | inr more ↦ omega (arith, more) ] in
            ap (λ n. bit_at n (at % 64) == 1) (get_or-set_other words word (at / 64) new 0 other)
      ];
    }

-- what is marked stays so
pub stays_marked : (old new : List ℕ) (place at : ℕ) → AddsMark old new place → is_marked old at ≡ true → is_marked new at ≡ true
stays_marked old new place at m e = elim (cases_order at place) [
  | inl same ↦ ap (is_marked new) same ∙ m.here
  | inr apart ↦ m.others at (elim apart [ inl less ↦ omega (arith, less) | inr more ↦ omega (arith, more) ]) ∙ e
]

pub skips_marked : (old new next : List ℕ) (place : ℕ) → Skips old next → AddsMark old new place → Skips new next
skips_marked old new next place s m =
    let size = m.size in
    record {
      size = s.size ∙ ap (λ n. n + 1) (sym size);
      forward = λ word l. s.forward word (omega (arith, l, size));
      within = λ word l. let w = s.within word (omega (arith, l, size)) in omega (arith, w, size);
      full = λ word at l a b. stays_marked old new place at m (s.full word at (omega (arith, l, size)) a b);
    }

-- a full word leads to the next one
pub skips_full : (words next : List ℕ) (word : ℕ) → word < length words → (full : ℕ) → full ≡ get_or words word full → full ≡ 18446744073709551615
    → Skips words next → Skips words (set next word (word + 1))
skips_full words next word l full is e s =
    let e' : get_or words word 0 ≡ 18446744073709551615 = sym (is ∙ get_or_default_zero words word full l) ∙ e in
    let size = s.size in
    let here : get_or (set next word (word + 1)) word 0 ≡ word + 1 = get_or-set_same next word (word + 1) 0 (omega (arith, size, l)) in
    let at_word : (P : ℕ → ℕ → Type 0) → P word (word + 1) → ((k : ℕ) → k ≤ length words → P k (get_or next k 0)) → (k : ℕ) → k ≤ length words
    → P k (get_or (set next word (word + 1)) k 0) =
    λ P one others k within. elim (cases_order k word) [
      | inl same ↦ subst (λ n. P n (get_or (set next word (word + 1)) n 0)) (sym same) (subst (P word) (sym here) one)
      | inr apart ↦
          let ne : k ≢ word = elim apart [ inl less ↦ omega (arith, less) | inr more ↦ omega (arith, more) ] in
          subst (P k) (sym (get_or-set_other next word k (word + 1) 0 ne)) (others k within)
    ] in
    record {
      size = length-set next word (word + 1) ∙ size;
      forward = at_word (λ k n. k ≤ n) (omega arith) s.forward;
      within = at_word (λ k n. n ≤ length words) (omega (arith, l)) s.within;
      full = λ k at within. at_word (λ k n. 64 * k ≤ at → at < 64 * n → is_marked words at ≡ true)
          (λ a b. ap (λ w. bit_at (get_or words w 0) (at % 64) == 1) (omega (arith, a, b)) ∙ ap (λ n. bit_at n (at % 64) == 1) e'
          ∙ ap (λ n. n == 1) (bit_at_ones 64 (at % 64) (omega arith)))
          (λ k within. s.full k at within) k within;
    }
