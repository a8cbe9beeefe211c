-- The flat machine: harts with their counts of moves, one memory, and the devices. It has no pages, owners or threads.
use Rattle.std.specs.Prelude.{ℕ, ◌≡◌, ◌+◌, ◌*◌, All, length, List, map, replicate}
use Rattle.std.specs.List.{range_with_len}
use Rattle.rv_words.specs.Limits.{page_bytes}
use Rattle.rv_hart.specs.State.{Hart}
use Rattle.rv_hart.specs.Moves.{hart_at_start}
use Rattle.elf_image.specs.Image.{Image}
use Rattle.device_board.specs.State.{Devices, devices_at_start}

pub record FlatState : Type 0 where
  pub harts : List Hart
  pub counts : List ℕ
  pub memory : List ℕ
  pub devices : Devices

-- the start state of an image and a number of harts
abbrev pub flat_at_start : Image → ℕ → FlatState
flat_at_start image harts =
    record {
      harts = map (λ id. hart_at_start id harts image.pages image.entry) (range_with_len 0 harts);
      counts = replicate harts 0;
      memory = image.bytes;
      devices = devices_at_start harts;
    }

-- a machine of the program: its state, and the number of further console bytes for which there is room
pub record FlatWithRoom : Type 0 where
  pub state : FlatState
  pub spare : ℕ

-- console bytes that were sent, and further ones for which there is room
abbrev pub console_room : FlatWithRoom → ℕ
console_room m = length m.state.devices.sent + m.spare

-- a hart of a board with so many harts and pages
abbrev pub OnBoard : ℕ → ℕ → Hart → Type 0
OnBoard harts pages x = (x.harts ≡ harts) × (x.pages ≡ pages)

-- harts, counts and memory of one board
pub record FitsTogether (harts : List Hart) (counts memory : List ℕ) (pages number : ℕ) : Type 0 where
  pub memory_size : length memory ≡ page_bytes * pages
  pub counts_size : length counts ≡ length harts
  pub harts_size : length harts ≡ number
  pub same_board : All (OnBoard number pages) harts
