-- A layer over any memory below it: what the segments laid so far leave of that memory.
use Rattle.std.proofs.Common.{ℕ, ◌≡◌, ◌*◌, ◌/◌, ◌%◌, ◌≤◌, ◌<◌, ◌==◌, Bool, true, false, List, [], ◌∷◌, length, replicate, slice_index, refl, sym, ap, ◌∙◌}
use Rattle.std.proofs.Common.{inl, inr, ◌⊎◌, arith, true≢false}
use Rattle.std.specs.Int.{bit_at}
use Rattle.std.proofs.lemmas.List.{length-replicate, get_or-replicate, get_or_past}
use Rattle.std.proofs.lemmas.Nat.Bits.{bit_at-zero}
use Rattle.std.proofs.lemmas.Grind.{same_number_lists}
use Rattle.elf_image.specs.Image.{memory_size}
use Rattle.elf_image.specs.Layers.{Fills, IsBlank, is_written, byte_at, start_of, end_of, given_at}
use Rattle.elf_image.specs.Loading.{loaded, placed}
use Rattle.elf_image.specs.Marks.{is_marked}
use Rattle.elf_image.specs.Rules.{passes_file, passes_memory}
use Rattle.elf_image.specs.declared.elf.Segment.{Segment}
use Rattle.elf_image.specs.declared.layer.Layer.{Layer}
use Rattle.elf_image.proofs.Contents.{length_placed, placed_below, placed_above, placed_inside}
use Rattle.elf_image.proofs.Layers.{side}

-- these segments make of any memory what the layer over it is, and an unwritten byte of the layer is 0
pub record IsOverlay (file : List ℕ) (pages : ℕ) (segments : List Segment) (layer : Layer) : Type 0 where
  pub bytes : length layer.bytes.items ≡ memory_size pages
  pub marks : length layer.bytes.items ≡ 64 * length layer.marks
  pub size : (memory : List ℕ) → length memory ≡ memory_size pages → length (loaded file segments memory) ≡ memory_size pages
  pub written : (memory : List ℕ) → length memory ≡ memory_size pages → (at : ℕ) → is_written layer at ≡ true
      → slice_index (loaded file segments memory) at ≡ byte_at layer at
  pub beneath : (memory : List ℕ) → length memory ≡ memory_size pages → (at : ℕ) → is_written layer at ≡ false
      → slice_index (loaded file segments memory) at ≡ slice_index memory at
  pub blank : (at : ℕ) → is_written layer at ≡ false → byte_at layer at ≡ 0

-- the memory with nothing in it
abbrev zeros : ℕ → List ℕ
zeros pages = replicate (memory_size pages) 0

zero_at : (n at : ℕ) → slice_index (replicate n 0) at ≡ 0
zero_at n at = elim (side at n)
    [ inl l ↦ get_or-replicate n at 0 0 l | inr l ↦ get_or_past (replicate n 0) at 0 (omega (arith, length-replicate {A = ℕ} n 0, l)) ]

none_marked : (n at : ℕ) → is_marked (replicate n 0) at ≡ false
none_marked n at = ap (λ k. bit_at k (at % 64) == 1) (zero_at n (at / 64)) ∙ ap (λ k. k == 1) (bit_at-zero (at % 64))

pub blank_overlay : (file : List ℕ) (pages : ℕ) (layer : Layer) → IsBlank pages layer → IsOverlay file pages [] layer
blank_overlay file pages layer b =
    let empty : (at : ℕ) → is_written layer at ≡ false = λ at. ap (λ m. is_marked m at) b.marks ∙ none_marked (memory_size pages / 64) at in
    let n = ap length b.bytes ∙ length-replicate {A = ℕ} (memory_size pages) 0 in
    let k = ap length b.marks ∙ length-replicate {A = ℕ} (memory_size pages / 64) 0 in
    record {
      bytes = n;
      marks = omega (arith, n, k);
      size = λ memory e. e;
      written = λ memory e at w. absurd (true≢false (sym w ∙ empty at));
      beneath = λ memory e at none. refl;
      blank = λ at none. ap (λ xs. slice_index xs at) b.bytes ∙ zero_at (memory_size pages) at;
    }

-- one segment more, laid under the others
module _ (file : List ℕ) (pages : ℕ) (s : Segment) (segments : List Segment) (kept : passes_file (length file) s ≡ false)
    (in_memory : passes_memory pages s ≡ false) where
  pub overlay_one : (old new : Layer) → IsOverlay file pages segments old → Fills (given_at file s) (start_of s) (end_of s) old new
      → IsOverlay file pages (s ∷ segments) new
  overlay_one old new o f =
      let bytes = f.bytes in
      let words = f.words in
      let size = λ (memory : List ℕ) (e : length memory ≡ memory_size pages). length_placed file pages s kept in_memory memory e ∙ e in
      -- what isn't written then wasn't, and lies beside the segment
      let apart : (at : ℕ) → is_written new at ≡ false
      → (is_written old at ≡ false) × (byte_at new at ≡ byte_at old at) × ((at < start_of s) ⊎ (end_of s ≤ at)) =
      λ at none. elim (side at (start_of s)) [
        | inl below ↦ let same = f.below at below in (sym same.written ∙ none, same.byte, inl below)
        | inr from ↦ elim (side at (end_of s)) [
          | inl inside ↦ absurd (true≢false (sym (f.written at from inside) ∙ none))
          | inr above ↦ let same = f.above at above in (sym same.written ∙ none, same.byte, inr above)
        ]
      ] in
      record {
        bytes = bytes ∙ o.bytes;
        marks = let m = o.marks in omega (arith, bytes, words, m);
        size = λ memory e. o.size (placed file s memory) (size memory e);
        written = λ memory e at w. by old new o f memory e at w (is_written old at) refl;
        beneath = λ memory e at none.
            let a = apart at none in
            o.beneath (placed file s memory) (size memory e) at a.0 ∙ elim a.2 [
              | inl below ↦ placed_below file pages s kept in_memory memory e at below
              | inr above ↦ placed_above file pages s kept in_memory memory e at above
            ];
        blank = λ at none. let a = apart at none in a.1 ∙ o.blank at a.0;
      }
    where
      by : (old new : Layer) → IsOverlay file pages segments old → Fills (given_at file s) (start_of s) (end_of s) old new → (memory : List ℕ)
          → length memory ≡ memory_size pages → (at : ℕ) → is_written new at ≡ true
          → (b : Bool) → is_written old at ≡ b → slice_index (loaded file segments (placed file s memory)) at ≡ byte_at new at
      by old new o f memory e at w true is = o.written (placed file s memory) (length_placed file pages s kept in_memory memory e ∙ e) at is
          ∙ sym (f.kept at is).byte
      by old new o f memory e at w false is = elim (side at (start_of s)) [
        | inl below ↦ absurd (true≢false (sym w ∙ ((f.below at below).written ∙ is)))
        | inr from ↦ elim (side at (end_of s)) [
          | inl inside ↦ o.beneath (placed file s memory) (length_placed file pages s kept in_memory memory e ∙ e) at is
              ∙ placed_inside file pages s kept in_memory memory e at from inside
              ∙ sym (f.filled at from inside is)
          | inr above ↦ absurd (true≢false (sym w ∙ ((f.above at above).written ∙ is)))
        ]
      ]

-- over zeros the layer's bytes are all
pub overlay_bytes : (file : List ℕ) (pages : ℕ) (segments : List Segment) (layer : Layer) → IsOverlay file pages segments layer
    → layer.bytes.items ≡ loaded file segments (zeros pages)
overlay_bytes file pages segments layer o =
    let size : length (zeros pages) ≡ memory_size pages = length-replicate {A = ℕ} (memory_size pages) 0 in
    same_number_lists layer.bytes.items (loaded file segments (zeros pages)) (o.bytes ∙ sym (o.size _ size)) (λ at l. by size at (is_written layer at) refl)
  where
    by : length (zeros pages) ≡ memory_size pages → (at : ℕ) (b : Bool) → is_written layer at ≡ b
        → slice_index layer.bytes.items at ≡ slice_index (loaded file segments (zeros pages)) at
    by size at true is = sym (o.written (zeros pages) size at is)
    by size at false is = o.blank at is ∙ sym (o.beneath (zeros pages) size at is ∙ zero_at (memory_size pages) at)
