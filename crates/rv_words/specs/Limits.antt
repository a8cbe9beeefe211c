-- Numbers of a board and its logs that are ours to choose (docs/board.md, docs/log-format.md), each by name.
use Rattle.std.specs.Prelude.{ℕ, ◌≡◌, ◌⊎◌}

-- bytes of a page, as images and logs count pages (docs/board.md)
abbrev pub page_bytes : ℕ
page_bytes = 4096

-- a board has from 1 to this many pages (docs/board.md)
abbrev pub most_pages : ℕ
most_pages = 4096

-- moves of a hart from one due Poll to the next (docs/log-format.md)
abbrev pub poll_distance : ℕ
poll_distance = 4096

-- the most moves that a hart makes (docs/log-format.md)
abbrev pub most_moves : ℕ
most_moves = 1000000000000

-- the most bytes of a log (docs/command-line.md)
abbrev pub longest_log : ℕ
longest_log = 536870912

-- how many bytes may be owned together: each divides a page, and words don't straddle them
abbrev pub IsUnit : ℕ → Type 0
IsUnit unit = (unit ≡ 256) ⊎ ((unit ≡ 1024) ⊎ (unit ≡ page_bytes))
