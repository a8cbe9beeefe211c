-- An image: the memory that a board starts with, and where its harts start.
use Rattle.std.specs.Prelude.{ℕ, ◌≡◌, ◌+◌, ◌*◌, ◌%◌, ◌≤◌, List, ◌++◌, length}
use Rattle.std.specs.Int.{w32, to_le_bytes}
use Rattle.rv_words.specs.Limits.{page_bytes, most_pages}
use Rattle.sha2.specs.Sha256.{sha256}

-- `pages` counts `page_bytes` each; `unit` is the number of bytes that are owned together
pub record Image : Type 0 where
  pub entry : ℕ
  pub pages : ℕ
  pub unit : ℕ
  pub bytes : List ℕ

-- memory begins at 0x80000000 (docs/board.md)
abbrev pub memory_size : ℕ → ℕ
memory_size pages = page_bytes * pages

-- an image of a board: its bytes fill the memory, and its entry is a multiple of 4 in memory
pub record IsWhole (image : Image) : Type 0 where
  pub least_pages : 1 ≤ image.pages
  pub pages_within : image.pages ≤ most_pages
  pub unit : image.unit ≡ page_bytes
  pub size : length image.bytes ≡ memory_size image.pages
  pub aligned : image.entry % 4 ≡ 0
  pub from : 0x80000000 ≤ image.entry
  pub within : image.entry + 4 ≤ 0x80000000 + memory_size image.pages

-- the start digest: SHA-256 (FIPS 180-4) of the entry's four little-endian bytes and the memory's bytes
abbrev pub start_digest : Image → List ℕ
start_digest image = sha256 (to_le_bytes w32 image.entry ++ image.bytes)
