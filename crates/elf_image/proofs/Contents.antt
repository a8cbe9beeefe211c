-- What a segment gives each place of a memory.
use Rattle.std.proofs.Common.{ℕ, ◌≡◌, ◌+◌, ◌-◌, ◌≤◌, ◌<◌, Bool, true, false, List, ◌++◌, take, drop, length, replicate, get_or, refl, ap, ◌∙◌, arith}
use Rattle.std.proofs.Common.{length-append, length-drop}
use Rattle.std.specs.Prelude.{slice_range}
use Rattle.std.proofs.lemmas.List.{length-replicate, get_or-take, get_or-drop, get_or_append_left, get_or-append_right}
use Rattle.std.proofs.lemmas.Grind.{common_steps}
use Rattle.std.proofs.Math.ListN.{length-take}
use Rattle.rv_words.specs.Memory.{put}
use Rattle.rv_words.proofs.Memory.{length_put}
use Rattle.elf_image.specs.Image.{memory_size}
use Rattle.elf_image.specs.Loading.{segment_bytes, placed, is_placed}
use Rattle.elf_image.specs.Layers.{start_of, end_of, given_at}
use Rattle.elf_image.specs.Rules.{passes_file, passes_memory}
use Rattle.elf_image.specs.declared.elf.Segment.{Segment}

module _ (mem : List ℕ) (place : ℕ) (bytes : List ℕ) (fits : place + length bytes ≤ length mem) where
  front : length (take place mem) ≡ place
  front = omega (arith, length-take place mem, fits)

  both : length (take place mem ++ bytes) ≡ place + length bytes
  both = omega (arith, length-append (take place mem) bytes, front)

  pub put_inside : (at : ℕ) → place ≤ at → at < place + length bytes → get_or (put mem place bytes) at 0 ≡ get_or bytes (at - place) 0
  put_inside at l m =
      get_or_append_left (take place mem ++ bytes) (drop (place + length bytes) mem) 0 at (omega (arith, both, m))
      ∙ get_or-append_right (take place mem) bytes place at 0 front l

  pub put_below : (at : ℕ) → at < place → get_or (put mem place bytes) at 0 ≡ get_or mem at 0
  put_below at l =
      get_or_append_left (take place mem ++ bytes) (drop (place + length bytes) mem) 0 at (omega (arith, both, l))
      ∙ get_or_append_left (take place mem) bytes 0 at (omega (arith, front, l))
      ∙ get_or-take place mem at 0 l

  pub put_above : (at : ℕ) → place + length bytes ≤ at → get_or (put mem place bytes) at 0 ≡ get_or mem at 0
  put_above at l =
      get_or-append_right (take place mem ++ bytes) (drop (place + length bytes) mem) (place + length bytes) at 0 both l
      ∙ get_or-drop (place + length bytes) mem (at - (place + length bytes)) 0
      ∙ ap (λ k. get_or mem k 0) (omega (arith, l))

pub length_contents : (file : List ℕ) (s : Segment) → is_placed s ≡ true → passes_file (length file) s ≡ false → length (segment_bytes file s) ≡ s.memory_size
length_contents file s is kept =
    let a : s.file_size ≤ s.memory_size = grind (arith, common_steps, is, kept) in
    let b : length (slice_range file s.offset (s.offset + s.file_size)) ≡ s.file_size =
    grind (arith, common_steps, is, kept, length-take s.file_size (drop s.offset file), length-drop s.offset file) in
    omega (
      arith,
      length-append (slice_range file s.offset (s.offset + s.file_size)) (replicate (s.memory_size - s.file_size) 0),
      a,
      b,
      length-replicate
          {A = ℕ} (s.memory_size - s.file_size) 0,
    )

-- a segment that lies in the file, and in a memory of so many pages
module _ (file : List ℕ) (pages : ℕ) (s : Segment) (kept : passes_file (length file) s ≡ false) (in_memory : passes_memory pages s ≡ false) (mem : List ℕ)
    (size : length mem ≡ memory_size pages) where
  fits : is_placed s ≡ true → start_of s + length (segment_bytes file s) ≤ length mem
  fits is =
      let n = length_contents file s is kept in
      let inside : start_of s + s.memory_size ≤ memory_size pages = grind (arith, common_steps, is, in_memory) in
      omega (arith, n, inside, size)

  pub length_placed : length (placed file s mem) ≡ length mem
  length_placed = by (is_placed s) refl where
    by : (b : Bool) → is_placed s ≡ b → length (placed file s mem) ≡ length mem
    by true is = rw is (length_put mem (segment_bytes file s) (start_of s) (fits is))
    by false is = rw is refl

  pub placed_below : (at : ℕ) → at < start_of s → get_or (placed file s mem) at 0 ≡ get_or mem at 0
  placed_below at l = by (is_placed s) refl where
    by : (b : Bool) → is_placed s ≡ b → get_or (placed file s mem) at 0 ≡ get_or mem at 0
    by true is = rw is (put_below mem (start_of s) (segment_bytes file s) (fits is) at l)
    by false is = rw is refl

  pub placed_above : (at : ℕ) → end_of s ≤ at → get_or (placed file s mem) at 0 ≡ get_or mem at 0
  placed_above at l = by (is_placed s) refl where
    by : (b : Bool) → is_placed s ≡ b → get_or (placed file s mem) at 0 ≡ get_or mem at 0
    by true is =
        let n = length_contents file s is kept in
        let m : start_of s + s.memory_size ≤ at = rw is at l in
        rw is (put_above mem (start_of s) (segment_bytes file s) (fits is) at (omega (arith, n, m)))
    by false is = rw is refl

  pub placed_inside : (at : ℕ) → start_of s ≤ at → at < end_of s → get_or (placed file s mem) at 0 ≡ given_at file s at
  placed_inside at l m = by (is_placed s) refl where
    by : (b : Bool) → is_placed s ≡ b → get_or (placed file s mem) at 0 ≡ given_at file s at
    by true is =
        let n = length_contents file s is kept in
        let k : at < start_of s + s.memory_size = rw is at m in
        rw is (put_inside mem (start_of s) (segment_bytes file s) (fits is) at l (omega (arith, n, k)))
    by false is = let k : at < start_of s = rw is at m in absurd (omega (arith, k, l))
