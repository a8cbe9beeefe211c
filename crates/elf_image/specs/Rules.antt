-- The rules by which a file is an image of a board with so many pages (docs/board.md).
use Rattle.std.specs.Prelude.{ℕ, ◌≡◌, ◌+◌, ◌*◌, ◌%◌, ◌==◌, ◌&&◌, ◌||◌, nat_lt, not, Bool, List, [], ◌∷◌, length, Option, Some, None, Result, Ok, Err}
use Rattle.std.specs.Prelude.{if◌then◌else◌}
use Rattle.std.specs.List.{find, list_any}
use Rattle.std.specs.Option.{option_map}
use Rattle.elf_image.specs.Image.{Image, memory_size}
use Rattle.elf_image.specs.Elf.{is_elf, class, encoding, version, file_type, machine, entry, table, flags, header_size, headers, segments, is_loadable}
use Rattle.elf_image.specs.Loading.{image_of}
use Rattle.elf_image.specs.declared.elf.Segment.{Segment}
use Rattle.elf_image.specs.declared.read.ImageError.{ImageError}
use Rattle.elf_image.specs.declared.read.ImageError.TheVariants.{Refused, NoMemory}

-- there are program headers, and they aren't of 32 bytes or pass the file's end
abbrev pub table_is_broken : List ℕ → Bool
table_is_broken file = not (headers file == 0) && (not (header_size file == 32) || nat_lt (length file) (table file + 32 * headers file))

-- a PT_LOAD has more in the file than in memory, or passes the file's end
abbrev pub passes_file : ℕ → Segment → Bool
passes_file size s = is_loadable s && (nat_lt s.memory_size s.file_size || (nat_lt 0 s.file_size && nat_lt size (s.offset + s.file_size)))

-- `size` bytes from an address on, one at least, don't all lie in memory
abbrev pub leaves_memory : ℕ → ℕ → ℕ → Bool
leaves_memory pages address size = nat_lt address 0x80000000 || nat_lt (0x80000000 + memory_size pages) (address + size)

-- a PT_LOAD with bytes in memory doesn't lie in memory by its physical address
abbrev pub passes_memory : ℕ → Segment → Bool
passes_memory pages s = is_loadable s && nat_lt 0 s.memory_size && leaves_memory pages s.address s.memory_size

abbrev pub entry_is_broken : ℕ → ℕ → Bool
entry_is_broken pages at = not (at % 4 == 0) || leaves_memory pages at 4

-- each rule for ELF files by its number, rising, with whether the file breaks it
abbrev pub elf_rules : ℕ → List ℕ → List (ℕ × Bool)
elf_rules pages file =
    (1, nat_lt (length file) 52)
    ∷ (3, not (class file == 1))
    ∷ (4, not (encoding file == 1))
    ∷ (5, not (version file == 1))
    ∷ (6, not (file_type file == 2))
    ∷ (7, not (machine file == 243))
    ∷ (8, flags file % 2 == 1)
    ∷ (9, table_is_broken file)
    ∷ (10, list_any (passes_file (length file)) (segments file))
    ∷ (11, list_any (passes_memory pages) (segments file))
    ∷ (12, entry_is_broken pages (entry file))
    ∷ []

-- and the one for any other file, which is a raw image
abbrev pub raw_rules : ℕ → List ℕ → List (ℕ × Bool)
raw_rules pages file = (2, nat_lt (memory_size pages) (length file)) ∷ []

abbrev pub least_broken : List (ℕ × Bool) → Option ℕ
least_broken rules = option_map (λ r. r.0) (find (λ r. r.1) rules)

-- the least rule that a file breaks
abbrev pub broken_rule : ℕ → List ℕ → Option ℕ
broken_rule pages file = least_broken (if is_elf file then elf_rules pages file else raw_rules pages file)

-- what reading a file answers; want of memory may come at any time
abbrev pub Reads : ℕ → List ℕ → Result Image ImageError → Type 0
Reads pages file (Ok image) = (broken_rule pages file ≡ None) × (image ≡ image_of pages file)
Reads pages file (Err (Refused rule)) = broken_rule pages file ≡ Some rule
Reads pages file (Err NoMemory) = Unit {0}
