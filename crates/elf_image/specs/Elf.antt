-- The fields of an ELF32 file: System V ABI, "ELF Header" and "Program Header". Numbers are little-endian.
use Rattle.std.specs.Prelude.{ℕ, ◌+◌, ◌==◌, Bool, List, [], ◌∷◌, slice_index, slice_range, zero, suc, nat_eq}
use Rattle.std.specs.Int.{w16, from_le_bytes}
use Rattle.std.specs.List.{starts_with}
use Rattle.rv_words.specs.Memory.{word_at}
use Rattle.elf_image.specs.declared.elf.Segment.{Segment}

abbrev pub half_at : List ℕ → ℕ → ℕ
half_at file at = from_le_bytes w16 (slice_range file at (at + 2))

-- it begins with 7F 45 4C 46
abbrev pub is_elf : List ℕ → Bool
is_elf file = starts_with nat_eq file (0x7F ∷ 0x45 ∷ 0x4C ∷ 0x46 ∷ [])

-- e_ident[EI_CLASS], e_ident[EI_DATA], e_ident[EI_VERSION]
abbrev pub class : List ℕ → ℕ
class file = slice_index file 4

abbrev pub encoding : List ℕ → ℕ
encoding file = slice_index file 5

abbrev pub version : List ℕ → ℕ
version file = slice_index file 6

-- e_type, e_machine, e_entry, e_phoff, e_flags, e_phentsize, e_phnum
abbrev pub file_type : List ℕ → ℕ
file_type file = half_at file 16

abbrev pub machine : List ℕ → ℕ
machine file = half_at file 18

abbrev pub entry : List ℕ → ℕ
entry file = word_at file 24

abbrev pub table : List ℕ → ℕ
table file = word_at file 28

abbrev pub flags : List ℕ → ℕ
flags file = word_at file 36

abbrev pub header_size : List ℕ → ℕ
header_size file = half_at file 42

abbrev pub headers : List ℕ → ℕ
headers file = half_at file 44

-- the program header at a place
abbrev pub segment_at : List ℕ → ℕ → Segment
segment_at file at =
    record {
      kind = word_at file at;
      offset = word_at file (at + 4);
      address = word_at file (at + 12);
      file_size = word_at file (at + 16);
      memory_size = word_at file (at + 20);
    }

-- so many program headers of 32 bytes each, from a place on
abbrev pub segments_from : List ℕ → ℕ → ℕ → List Segment
segments_from file at zero = []
segments_from file at (suc n) = segment_at file at ∷ segments_from file (at + 32) n

-- the program headers of a file, in table order
abbrev pub segments : List ℕ → List Segment
segments file = segments_from file (table file) (headers file)

-- PT_LOAD
abbrev pub is_loadable : Segment → Bool
is_loadable s = s.kind == 1
