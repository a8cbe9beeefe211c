-- Frames and memory agree.
use Rattle.std.proofs.Common.{◌≡◌, ◌≢◌, ℕ, ◌+◌, ◌-◌, ◌*◌, ◌<◌, ◌≤◌, List, [], ◌∷◌, ◌++◌, take, drop, length, get_or, refl, ap, sym, ◌∙◌, arith, subst}
use Rattle.std.proofs.Common.{length-append, length-drop, append_assoc, ◌⊎◌, inl, inr}
use Rattle.std.specs.Prelude.{slice_range, slice_index}
use Rattle.std.specs.Int.{w32, from_le_bytes, to_le_bytes}
use Rattle.std.proofs.lemmas.List.{take-append-le, drop-append-le, drop-drop, drop-take, take-take}
use Rattle.std.proofs.Math.Seq.{drop-append-add, take-append-add}
use Rattle.std.proofs.Math.ListN.{length-take}
use Rattle.std.proofs.lemmas.Bool.{cases_lt}
use Rattle.std.proofs.Math.Nat.{mul-le-mul_right}
use Rattle.rv_words.specs.Memory.{word_at, put}
use Rattle.guest_pages.specs.Pages.{page_of}
use Rattle.guest_pages.specs.Laws.{WordsAgree, StoresAgree}

-- `&s[a..a + n]`
pub range_is : (mem : List ℕ) (a n : ℕ) → slice_range mem a (a + n) ≡ take n (drop a mem)
range_is mem a n = ap (λ k. take k (drop a mem)) (omega arith)

length_taken : (n : ℕ) (xs : List ℕ) → n ≤ length xs → length (take n xs) ≡ n
length_taken n xs h = omega (arith, length-take n xs)

pub range_of_range : (mem : List ℕ) (a n q k : ℕ) → q + k ≤ n → slice_range (slice_range mem a (a + n)) q (q + k) ≡ slice_range mem (a + q) (a + q + k)
range_of_range mem a n q k h =
    let r = n - q in
    let s : n ≡ q + (n - q) = omega arith in
    range_is (slice_range mem a (a + n)) q k
    ∙ ap (λ xs. take k (drop q xs)) (range_is mem a n ∙ ap (λ j. take j (drop a mem)) s)
    ∙ ap (take k) (drop-take q (n - q) (drop a mem))
    ∙ take-take k (n - q) (drop q (drop a mem)) (omega arith)
    ∙ ap (take k) (drop-drop q a mem)
    ∙ sym (range_is mem (a + q) k)

pub words_agree : WordsAgree
words_agree mem unit page at h = ap (from_le_bytes w32) (range_of_range mem (page * unit) unit at 4 h)

-- what lies from `a` on, after a write behind it
drop-put : (mem bytes : List ℕ) (a m : ℕ) → a + m ≤ length mem → drop a (put mem (a + m) bytes) ≡ put (drop a mem) m bytes
drop-put mem bytes a m h =
    let e : length (take (a + m) mem) ≡ a + m = length_taken (a + m) mem h in
    let f : length (take (a + m) mem ++ bytes) ≡ a + m + length bytes = length-append (take (a + m) mem) bytes ∙ ap (λ k. k + length bytes) e in
    drop-append-le a (take (a + m) mem ++ bytes) (drop (a + m + length bytes) mem) (omega (arith, f))
    ∙ ap (λ xs. xs ++ drop (a + m + length bytes) mem)
    (drop-append-le a (take (a + m) mem) bytes (omega (arith, e)) ∙ ap (λ xs. xs ++ bytes) (drop-take a m mem))
    ∙ ap (λ xs. take m (drop a mem) ++ bytes ++ xs) (ap (λ k. drop k mem) (omega arith) ∙ sym (drop-drop (m + length bytes) a mem))

-- the front of a list, after a write within it
take-put : (xs bytes : List ℕ) (m r : ℕ) → m ≤ length xs → take (m + length bytes + r) (put xs m bytes) ≡ put (take (m + length bytes + r) xs) m bytes
take-put xs bytes m r h =
    let e : length (take m xs) ≡ m = length_taken m xs h in
    let f : length (take m xs ++ bytes) ≡ m + length bytes = length-append (take m xs) bytes ∙ ap (λ k. k + length bytes) e in
    ap (λ k. take (k + r) (put xs m bytes)) (sym f)
    ∙ take-append-add (take m xs ++ bytes) (drop (m + length bytes) xs) r
    ∙ ap (λ ys. ys ++ bytes ++ take r (drop (m + length bytes) xs)) (sym (take-take m (m + length bytes + r) xs (omega arith)))
    ∙ ap (λ ys. take m (take (m + length bytes + r) xs) ++ bytes ++ ys) (sym (drop-take (m + length bytes) r xs))

-- a part before the write, and all that lies behind it
before_put : (mem bytes : List ℕ) (b u k : ℕ) → b + u ≤ k → k ≤ length mem → take u (drop b (put mem k bytes)) ≡ take u (drop b mem)
before_put mem bytes b u k h l =
    let m = k - b in
    let s : k ≡ b + (k - b) = omega arith in
    let e : length (drop b mem) ≡ length mem - b = length-drop b mem in
    let t : length (take (k - b) (drop b mem)) ≡ k - b = length_taken (k - b) (drop b mem) (omega (arith, e)) in
    let f : length (take (k - b) (drop b mem) ++ bytes) ≡ k - b + length bytes =
    length-append (take (k - b) (drop b mem)) bytes ∙ ap (λ j. j + length bytes) t in
    ap (λ j. take u (drop b (put mem j bytes))) s
    ∙ ap (take u) (drop-put mem bytes b (k - b) (omega arith))
    ∙ take-append-le u (take (k - b) (drop b mem) ++ bytes) (drop (k - b + length bytes) (drop b mem)) (omega (arith, f))
    ∙ take-append-le u (take (k - b) (drop b mem)) bytes (omega (arith, t))
    ∙ take-take u (k - b) (drop b mem) (omega arith)

behind_put : (mem bytes : List ℕ) (b k : ℕ) → k + length bytes ≤ b → k ≤ length mem → drop b (put mem k bytes) ≡ drop b mem
behind_put mem bytes b k h l =
    let e : length (take k mem) ≡ k = length_taken k mem l in
    let f : length (take k mem ++ bytes) ≡ k + length bytes = length-append (take k mem) bytes ∙ ap (λ j. j + length bytes) e in
    let s : b ≡ length (take k mem ++ bytes) + (b - (k + length bytes)) = omega (arith, f) in
    ap (λ j. drop j (put mem k bytes)) s
    ∙ drop-append-add (take k mem ++ bytes) (drop (k + length bytes) mem) (b - (k + length bytes))
    ∙ drop-drop (b - (k + length bytes)) (k + length bytes) mem
    ∙ ap (λ j. drop j mem) (omega arith)

apart : (a b : ℕ) → a ≢ b → (a + 1 ≤ b) ⊎ (b + 1 ≤ a)
apart a b n = elim (cases_lt a b) [ inl h ↦ inl (omega arith) | inr h ↦ inr (omega arith) ]

other_same : (mem bytes : List ℕ) (unit page at other : ℕ) → other ≢ page → at + length bytes ≤ unit → page * unit + unit ≤ length mem
    → take unit (drop (other * unit) (put mem (page * unit + at) bytes)) ≡ take unit (drop (other * unit) mem)
other_same mem bytes unit page at other n h l =
    elim (apart other page n) [
      | inl lt ↦ before_put mem bytes (other * unit) unit (page * unit + at) (omega (arith, mul-le-mul_right unit lt)) (omega arith)
      | inr gt ↦ ap (take unit) (behind_put mem bytes (other * unit) (page * unit + at) (omega (arith, mul-le-mul_right unit gt)) (omega arith))
    ]

pub stores_agree : StoresAgree
stores_agree mem unit page at bytes h l =
    let a = page * unit in
    let r = unit - (at + length bytes) in
    let s : unit ≡ at + length bytes + (unit - (at + length bytes)) = omega arith in
    let e : length (drop (page * unit) mem) ≡ length mem - page * unit = length-drop (page * unit) mem in (
      range_is (put mem (page * unit + at) bytes) (page * unit) unit
          ∙ ap (take unit) (drop-put mem bytes (page * unit) at (omega arith))
          ∙ ap (λ k. take k (put (drop (page * unit) mem) at bytes)) s
          ∙ take-put (drop (page * unit) mem) bytes at (unit - (at + length bytes)) (omega (arith, e))
          ∙ ap (λ k. put (take k (drop (page * unit) mem)) at bytes) (sym s)
          ∙ ap (λ xs. put xs at bytes) (sym (range_is mem (page * unit) unit)),
      λ other n.
          range_is (put mem (page * unit + at) bytes) (other * unit) unit
          ∙ other_same mem bytes unit page at other n h l
          ∙ sym (range_is mem (other * unit) unit),
    )
