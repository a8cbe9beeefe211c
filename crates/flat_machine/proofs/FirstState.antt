-- At the start harts, counts and memory are of one board.
use Rattle.std.proofs.Common.{◌≡◌, ℕ, ◌+◌, ◌*◌, ◌<◌, List, replicate, map, length, get_or, [], ◌∷◌, ◌++◌, ap, sym, ◌∙◌, arith, zero-add}
use Rattle.std.specs.List.{range_with_len}
use Rattle.std.proofs.lemmas.List.{length-replicate}
use Rattle.std.proofs.lemmas.List.FromFn.{length-map-range_with_len, get_or-map-range_with_len, map-range_with_len_more}
use Rattle.rv_hart.specs.State.{Hart}
use Rattle.rv_hart.specs.Moves.{hart_at_start}
use Rattle.rv_words.specs.Limits.{page_bytes}
use Rattle.elf_image.specs.Image.{Image, IsWhole}
use Rattle.flat_machine.specs.State.{FitsTogether}

-- the harts with one more behind them
pub one_more : (n p e id : ℕ) (xs ys : List Hart) (x : Hart) → xs ≡ map (λ k. hart_at_start k n p e) (range_with_len 0 id) → ys ≡ xs ++ x ∷ []
    → x ≡ hart_at_start id n p e
    → ys ≡ map (λ k. hart_at_start k n p e) (range_with_len 0 (id + 1))
one_more n p e id xs ys x xs_are more x_is =
    let f : ℕ → Hart = λ k. hart_at_start k n p e in
    more ∙ ap (λ zs. zs ++ x ∷ []) xs_are ∙ ap (λ z. map f (range_with_len 0 id) ++ z ∷ []) x_is ∙ sym (map-range_with_len_more f 0 id id (zero-add id))

pub start_fits : (image : Image) (n p e number : ℕ) (xs : List Hart) (counts memory : List ℕ) → IsWhole image
    → xs ≡ map (λ id. hart_at_start id n p e) (range_with_len 0 n)
    → counts ≡ replicate n 0 → memory ≡ image.bytes → p ≡ image.pages → number ≡ n → FitsTogether xs counts memory p number
start_fits image n p e number xs counts memory whole xs_are counts_are memory_is pages_are harts_are =
    let f : ℕ → Hart = λ id. hart_at_start id n p e in
    let long : length xs ≡ n = ap length xs_are ∙ length-map-range_with_len f 0 n in
    record {
      memory_size = ap length memory_is ∙ whole.size ∙ ap (λ k. page_bytes * k) (sym pages_are);
      counts_size = ap length counts_are ∙ length-replicate n 0 ∙ sym long;
      harts_size = long ∙ sym harts_are;
      same_board = λ k d l.
          let inside : k < n = omega (arith, l, long) in
          let is : get_or xs k d ≡ f k = ap (λ ys. get_or ys k d) xs_are ∙ get_or-map-range_with_len f 0 n k k d inside (zero-add k) in
          (ap (λ (x : Hart). x.harts) is ∙ sym harts_are, ap (λ (x : Hart). x.pages) is);
    }
