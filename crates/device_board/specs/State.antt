-- The devices of a board, and the lines that they raise at a hart. Timer and software interrupts are after the
-- layout known as CLINT; the console's words are this board's own (docs/board.md).
use Rattle.std.specs.Prelude.{ℕ, ◌+◌, ◌-◌, ◌^◌, nat_le, Bool, false, List, [], Option, None, replicate, slice_index, slice_index_or}
use Rattle.rv_words.specs.Words.{bit}

-- msip and mtimecmp of each hart, mtime, the bytes sent to the console, and the word stored to STOP
pub record Devices : Type 0 where
  pub harts : ℕ
  pub msip : List Bool
  pub mtimecmp : List ℕ
  pub mtime : ℕ
  pub sent : List ℕ
  pub stop : Option ℕ

-- devices, and the number of further console bytes for which there is room
pub record DevicesWithRoom : Type 0 where
  pub devices : Devices
  pub spare : ℕ

abbrev pub devices_at_start : ℕ → Devices
devices_at_start harts =
    record { harts = harts; msip = replicate harts false; mtimecmp = replicate harts (2 ^ 64 - 1); mtime = 0; sent = []; stop = None }

abbrev pub msip_of : Devices → ℕ → Bool
msip_of d h = slice_index_or d.msip h false

abbrev pub mtimecmp_of : Devices → ℕ → ℕ
mtimecmp_of d h = slice_index d.mtimecmp h

-- the lines that a hart would have at a time: bit 0 is its msip, and bit 1 is its timer, up from mtimecmp on
abbrev pub lines_at : Devices → ℕ → ℕ → ℕ
lines_at d h time = bit (msip_of d h) 0 + bit (nat_le (mtimecmp_of d h) time) 1

abbrev pub lines : Devices → ℕ → ℕ
lines d h = lines_at d h d.mtime

abbrev pub with_time : ℕ → Devices → Devices
with_time t d = record d { mtime = t }
