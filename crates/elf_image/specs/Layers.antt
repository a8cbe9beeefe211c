-- A memory that is written so that a byte once written stays.
use Rattle.std.specs.Prelude.{ℕ, ◌≡◌, ◌+◌, ◌*◌, ◌/◌, ◌-◌, ◌≤◌, ◌<◌, true, false, Bool, List, length, replicate, slice_index, if◌then◌else◌}
use Rattle.elf_image.specs.Image.{memory_size}
use Rattle.elf_image.specs.Loading.{segment_bytes, is_placed}
use Rattle.elf_image.specs.Marks.{is_marked}
use Rattle.elf_image.specs.Rules.{passes_file}
use Rattle.elf_image.specs.declared.elf.Segment.{Segment}
use Rattle.elf_image.specs.declared.layer.Layer.{Layer}

abbrev pub is_written : Layer → ℕ → Bool
is_written layer at = is_marked layer.marks at

abbrev pub byte_at : Layer → ℕ → ℕ
byte_at layer at = slice_index layer.bytes.items at

-- at this place the two are the same
pub record IsSameAt (old new : Layer) (at : ℕ) : Type 0 where
  pub written : is_written new at ≡ is_written old at
  pub byte : byte_at new at ≡ byte_at old at

-- the bytes from `from` to `to` are written then; those that weren't are what `content` says of their place
pub record Fills (content : ℕ → ℕ) (from to : ℕ) (old new : Layer) : Type 0 where
  pub bytes : length new.bytes.items ≡ length old.bytes.items
  pub words : length new.marks ≡ length old.marks
  pub kept : (at : ℕ) → is_written old at ≡ true → IsSameAt old new at
  pub below : (at : ℕ) → at < from → IsSameAt old new at
  pub above : (at : ℕ) → to ≤ at → IsSameAt old new at
  pub written : (at : ℕ) → from ≤ at → at < to → is_written new at ≡ true
  pub filled : (at : ℕ) → from ≤ at → at < to → is_written old at ≡ false → byte_at new at ≡ content at

-- the places of a segment in memory, and what it gives each
abbrev pub start_of : Segment → ℕ
start_of s = s.address - 0x80000000

abbrev pub end_of : Segment → ℕ
end_of s = if is_placed s then start_of s + s.memory_size else start_of s

abbrev pub given_at : List ℕ → Segment → ℕ → ℕ
given_at file s at = slice_index (segment_bytes file s) (at - start_of s)

-- the segment's bytes from `from` to `to` can be written into the layer
pub record CanFill (file : List ℕ) (s : Segment) (from to : ℕ) (layer : Layer) : Type 0 where
  pub marks : length layer.bytes.items ≡ 64 * length layer.marks
  pub bytes : to ≤ length layer.bytes.items
  pub placed : is_placed s ≡ true
  pub kept : passes_file (length file) s ≡ false
  pub base : 0x80000000 ≤ s.address
  pub start : start_of s ≤ from
  pub order : from ≤ to
  pub end : to ≤ end_of s

-- nothing is written, and every byte is 0
pub record IsBlank (pages : ℕ) (layer : Layer) : Type 0 where
  pub bytes : layer.bytes.items ≡ replicate (memory_size pages) 0
  pub marks : layer.marks ≡ replicate (memory_size pages / 64) 0
