-- The entries that a hart makes at its count (docs/replay.md).
use Rattle.std.specs.Prelude.{ℕ, ◌≡◌, ◌≢◌, ◌+◌, ◌-◌, length, slice_index}
use Rattle.elf_image.specs.Image.{Image}
use Rattle.log_entry.specs.declared.log.Log.{Log}
use Rattle.order_rules.specs.Places.{stream}
use Rattle.flat_machine.specs.State.{FlatState}
use Rattle.replay_model.specs.State.{Replay}
use Rattle.run_model.specs.Run.{Run}
use Rattle.run_model.specs.Agreement.{Agrees}
use Rattle.replay_parts.specs.Turns.{MakesEntries}
use Rattle.replay_core.specs.declared.position.Position.{Position}
use Rattle.replay_core.specs.declared.went.Went.{Went}
use Rattle.replay_core.specs.declared.went.Went.TheVariants as went
use Rattle.replay_core.specs.Items.{after, answer_of}
use Rattle.replay_core.specs.Standing.{Stands}

-- how many entries and moves of a hart may be left: what the loop of its entries ends by
abbrev pub left_of : Position → Run → ℕ → ℕ
left_of b r h = length (stream b.log h) + b.log.limit - (slice_index b.cursor.places h + r.count)

-- the state once a hart had its item, where that is an entry that it can make, and else as it was
abbrev pub after_entry : Log → ℕ → Replay FlatState → Went → Replay FlatState
after_entry log h s went.Entry = after log h s
after_entry log h s other = s

-- the answer is what comes of the hart's item, and board and run are at the state behind it, where it is an entry
pub record Enters (image : Image) (new : Position) (run : Run) (log : Log) (h : ℕ) (s : Replay FlatState) (answer : Went) : Type 0 where
  pub answer_is : answer ≡ answer_of log s h
  pub stands : Stands image new (after_entry log h s answer)
  pub agrees : Agrees run h (after_entry log h s answer)

abbrev pub MakesEntry : Position → Position → Run → Run → ℕ → Went → Type 0
MakesEntry old new before run h answer =
    (image : Image) (s : Replay FlatState) → Stands image old s → Agrees before h s → Enters image new run old.log h s answer

-- the hart made entries, one after the other
pub record HasMade (image : Image) (new : Position) (run : Run) (log : Log) (h : ℕ) (s : Replay FlatState) : Type 0 where
  pub entries : ℕ
  pub at : Replay FlatState
  pub makes : MakesEntries log h entries s at
  pub stands : Stands image new at
  pub agrees : Agrees run h at

-- so it did from each state that the board stood for and the run agreed with
abbrev pub ComesToEntries : Position → Position → Run → Run → ℕ → Type 0
ComesToEntries old new before run h =
    (image : Image) (s : Replay FlatState) → Stands image old s → Agrees before h s → HasMade image new run old.log h s

-- all that it could; the answer is what comes of the item behind them
pub record HasMadeAll (image : Image) (new : Position) (run : Run) (log : Log) (h : ℕ) (s : Replay FlatState) (answer : Went) : Type 0 where
  pub made : HasMade image new run log h s
  pub answer_is : answer ≡ answer_of log made.at h
  pub none : answer ≢ went.Entry

abbrev pub MakesAll : Position → Position → Run → Run → ℕ → Went → Type 0
MakesAll old new before run h answer =
    (image : Image) (s : Replay FlatState) → Stands image old s → Agrees before h s → HasMadeAll image new run old.log h s answer
