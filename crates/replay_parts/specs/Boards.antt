-- A replay's board as plain data, and the state that it stands for (docs/replay.md).
use Rattle.std.specs.Prelude.{ℕ, zero, suc, ◌+◌, ◌||◌, nat_lt, if◌then◌else◌, Bool, List, length, replicate, slice_index, Option, None}
use Rattle.std.specs.Option.{option_map_or}
use Rattle.elf_image.specs.Image.{Image}
use Rattle.log_entry.specs.declared.log.Log.{Log}
use Rattle.log_entry.specs.Parts.{unit_of}
use Rattle.orders_law.specs.Orders.{least, total}
use Rattle.flat_machine.specs.State.{FlatState}
use Rattle.flat_machine.specs.declared.results.Step.{Step}
use Rattle.replay_model.specs.Board.{board}
use Rattle.replay_model.specs.State.{Replay}
use Rattle.replay_model.specs.Items.{step}
use Rattle.replay_law.specs.Laws.{first_replay}

-- the log, the image, and of each hart the place in its stream and the count that it has committed
pub record Plain : Type 0 where
  pub log : Log
  pub image : Image
  pub places : List ℕ
  pub counts : List ℕ

-- before any turn
abbrev pub first_board : Log → Image → Plain
first_board log image = record { log = log; image = image; places = replicate (length log.streams) 0; counts = replicate (length log.streams) 0 }

-- a hart stands before what it has committed
abbrev pub is_short : Plain → ℕ → Replay FlatState → Bool
is_short p h s = nat_lt (slice_index s.cursor.places h) (slice_index p.places h) || nat_lt (slice_index s.flat.counts h) (slice_index p.counts h)

-- its item, where it does
abbrev pub step_within : Plain → ℕ → Replay FlatState → Option (Replay FlatState × Option (List Step))
step_within p h s = if is_short p h s then step (board (unit_of p.log)) p.log h s else None

-- the end of the least order, as far as so many moves
module _ {S E : Type 0} (step : ℕ → S → Option (S × E)) (harts : ℕ) where
  abbrev pub least_end : ℕ → S → S
  least_end zero s = s
  least_end (suc n) s = option_map_or (λ h. option_map_or (λ m. least_end n m.0) (step h s) s) (least step harts s) s

-- always the least hart goes that can and stands before what it has committed, until there is none: each item takes a place or a count
abbrev pub state_of : Plain → Replay FlatState
state_of p = least_end (step_within p) (length p.log.streams) (total p.places + total p.counts) (first_replay p.log p.image)
