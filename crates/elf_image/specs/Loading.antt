-- The image that a file gives.
use Rattle.std.specs.Prelude.{ℕ, ◌+◌, ◌-◌, ◌&&◌, nat_lt, Bool, List, [], ◌∷◌, ◌++◌, length, replicate, slice_range, if◌then◌else◌}
use Rattle.rv_words.specs.Limits.{page_bytes}
use Rattle.rv_words.specs.Memory.{put}
use Rattle.elf_image.specs.Image.{Image, memory_size}
use Rattle.elf_image.specs.Elf.{is_elf, entry, segments, is_loadable}
use Rattle.elf_image.specs.declared.elf.Segment.{Segment}

-- the bytes of a segment: those of the file, and zeros up to its size in memory
abbrev pub segment_bytes : List ℕ → Segment → List ℕ
segment_bytes file s = slice_range file s.offset (s.offset + s.file_size) ++ replicate (s.memory_size - s.file_size) 0

-- a PT_LOAD with bytes in memory
abbrev pub is_placed : Segment → Bool
is_placed s = is_loadable s && nat_lt 0 s.memory_size

-- the memory with a segment at its physical address
abbrev pub placed : List ℕ → Segment → List ℕ → List ℕ
placed file s memory = if is_placed s then put memory (s.address - 0x80000000) (segment_bytes file s) else memory

-- the segments in table order, later ones over earlier ones
abbrev pub loaded : List ℕ → List Segment → List ℕ → List ℕ
loaded file [] memory = memory
loaded file (s ∷ others) memory = loaded file others (placed file s memory)

-- all else is zero
abbrev pub elf_memory : ℕ → List ℕ → List ℕ
elf_memory pages file = loaded file (segments file) (replicate (memory_size pages) 0)

-- a raw image stands at the beginning of memory
abbrev pub raw_memory : ℕ → List ℕ → List ℕ
raw_memory pages file = file ++ replicate (memory_size pages - length file) 0

-- a raw image starts at its first byte, an ELF file where it says
abbrev pub image_of : ℕ → List ℕ → Image
image_of pages file =
    record {
      entry = if is_elf file then entry file else 0x80000000;
      pages = pages;
      unit = page_bytes;
      bytes = if is_elf file then elf_memory pages file else raw_memory pages file;
    }
