-- How many bytes a guest's code has.
use Rattle.std.proofs.Common.{◌≡◌, ℕ, zero, suc, ◌*◌, ◌%◌, ◌==◌, Bool, true, false, List, [], ◌∷◌, ◌++◌, length, refl, ap, ◌∙◌, arith, if◌then◌else◌}
use Rattle.std.proofs.lemmas.List.{length-append}
use Rattle.rv_decode.specs.declared.Instr.{Instr}
use Rattle.guest_maker.specs.Draws.{next, draw, after_blocks}
use Rattle.guest_maker.specs.Code.{word_bytes, bytes_of, head, block, base, drawn_block, blocks, loop_end, finish, code}

word_size : (i : Instr) → length (word_bytes i) ≡ 4
unfolding word_bytes
word_size i = refl

bytes_size : (is : List Instr) → length (bytes_of is) ≡ 4 * length is
bytes_size [] = refl
bytes_size (i ∷ is) =
    let whole = length-append (word_bytes i) (bytes_of is) in
    let one = word_size i in
    let rest = bytes_size is in
    omega (arith, whole, one, rest)

chosen : (is : Bool) (one other : List Instr) → length one ≡ 3 → length other ≡ 3 → length (if is then one else other) ≡ 3
chosen true one other a b = a
chosen false one other a b = b

block_size : (kind w b : ℕ) → length (block kind w b) ≡ 3
unfolding block
block_size kind w b =
    chosen (kind == 0) _ _ refl (chosen (kind == 1) _ _ refl (chosen (kind == 2) _ _ refl (chosen (kind == 3) _ _ refl
    (chosen (kind == 4) _ _ refl refl))))

drawn_size : (s : ℕ) → length (drawn_block s) ≡ 3
unfolding drawn_block
drawn_size s = block_size (draw (next s) % 6) (4 * (draw (next (next s)) % 64)) (base (draw (next (next (next s)))))

blocks_size : (number n : ℕ) → length (blocks number n) ≡ 3 * n
unfolding blocks
blocks_size number zero = refl
blocks_size number (suc n) =
    let whole = length-append (blocks number n) (drawn_block (after_blocks number n)) in
    let one = drawn_size (after_blocks number n) in
    let rest = blocks_size number n in
    omega (arith, whole, one, rest)

head_size : length head ≡ 4
unfolding head
head_size = refl

loop_end_size : length loop_end ≡ 3
unfolding loop_end
loop_end_size = refl

finish_size : (harts : ℕ) → length (finish harts) ≡ 9
unfolding finish
finish_size harts = refl

-- 208 words
pub code_size : (number harts : ℕ) → length (code number harts) ≡ 832
code_size number harts =
    let a = length-append (bytes_of head) (bytes_of (blocks number 64) ++ (bytes_of loop_end ++ bytes_of (finish harts))) in
    let b = length-append (bytes_of (blocks number 64)) (bytes_of loop_end ++ bytes_of (finish harts)) in
    let c = length-append (bytes_of loop_end) (bytes_of (finish harts)) in
    let first = bytes_size head ∙ ap (λ k. 4 * k) head_size in
    let middle = bytes_size (blocks number 64) ∙ ap (λ k. 4 * k) (blocks_size number 64) in
    let last = bytes_size loop_end ∙ ap (λ k. 4 * k) loop_end_size in
    let end = bytes_size (finish harts) ∙ ap (λ k. 4 * k) (finish_size harts) in
    omega (arith, a, b, c, first, middle, last, end)
