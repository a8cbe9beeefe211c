-- One further block of a guest's code.
use Rattle.std.proofs.Common.{◌≡◌, ℕ, zero, suc, ◌+◌, List, [], ◌++◌, ap, sym, ◌∙◌, arith, refl}
use Rattle.std.proofs.lemmas.List.{append-nil, append_assoc}
use Rattle.std.proofs.lemmas.List.Concat.{flat_map-append}
use Rattle.guest_maker.specs.Draws.{next, after_blocks}
use Rattle.guest_maker.specs.Code.{word_bytes, bytes_of, blocks, drawn_block}

pub no_blocks : (number : ℕ) (old : List ℕ) → old ≡ old ++ bytes_of (blocks number 0)
unfolding blocks
no_blocks number old = sym (append-nil old)

pub not_drawn : (number : ℕ) → number ≡ after_blocks number 0
unfolding after_blocks
not_drawn number = refl

next_blocks : (number n : ℕ) → blocks number (suc n) ≡ blocks number n ++ drawn_block (after_blocks number n)
unfolding blocks
next_blocks number n = refl

next_state : (number n : ℕ) → after_blocks number (suc n) ≡ next (next (next (after_blocks number n)))
unfolding after_blocks
next_state number n = refl

pub drawn_once_more : (number n s after : ℕ) → s ≡ after_blocks number n → after ≡ next (next (next s)) → after ≡ after_blocks number (n + 1)
drawn_once_more number n s after so is =
    let e : suc n ≡ n + 1 = omega arith in
    is ∙ ap (λ z. next (next (next z))) so ∙ sym (next_state number n) ∙ ap (after_blocks number) e

pub one_block_more : (number n s : ℕ) (old now after block : List ℕ) → now ≡ old ++ bytes_of (blocks number n) → s ≡ after_blocks number n
    → block ≡ bytes_of (drawn_block s) → after ≡ now ++ block → after ≡ old ++ bytes_of (blocks number (n + 1))
one_block_more number n s old now after block so state is more =
    let e : suc n ≡ n + 1 = omega arith in
    let new = drawn_block (after_blocks number n) in
    more ∙ ap (λ z. now ++ z) (is ∙ ap (λ z. bytes_of (drawn_block z)) state)
    ∙ ap (λ z. z ++ bytes_of new) so
    ∙ append_assoc old (bytes_of (blocks number n)) (bytes_of new)
    ∙ ap (λ z. old ++ z) (
    sym (flat_map-append word_bytes (blocks number n) new)
    ∙ ap bytes_of (sym (next_blocks number n))
    ∙ ap (λ m. bytes_of (blocks number m)) e)
