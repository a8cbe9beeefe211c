-- The atomic moves on a word of memory along an order: the LRs, SCs and AMOs that retired there.
use Rattle.std.specs.Prelude.{ℕ, List, [], ◌∷◌, ◌++◌, slice_get, slice_index, Option, Some, None, if◌then◌else◌}
use Rattle.std.specs.Option.{option_map_or}
use Rattle.rv_hart.specs.Moves.{written, need_of}
use Rattle.rv_hart.specs.declared.effect.Effect.{Effect}
use Rattle.rv_hart.specs.declared.effect.Effect.TheVariants.{Reserves, Commits, Fails, Updates}
use Rattle.rv_hart.specs.declared.effect.Wrote.{Wrote}
use Rattle.rv_hart.specs.declared.effect.Wrote.TheVariants as wrote
use Rattle.log_entry.specs.declared.log.Log.{Log}
use Rattle.log_entry.specs.Parts.{unit_of}
use Rattle.order_rules.specs.Places.{is_number}
use Rattle.flat_machine.specs.State.{FlatState}
use Rattle.flat_machine.specs.Moves.{next_move, loaded_for}
use Rattle.replay_model.specs.Board.{board}
use Rattle.replay_model.specs.State.{Replay}
use Rattle.replay_model.specs.Items.{Item, Move, next_item, step}

-- the hart, its count before the move, and what it stored, if anything
pub record Atomic : Type 0 where
  pub hart : ℕ
  pub count : ℕ
  pub stored : Option ℕ

-- the address of an LR, an SC, failed or not, or an AMO
abbrev pub atomic_at : Effect → Option ℕ
atomic_at (Reserves rd at) = Some at
atomic_at (Commits rd at value) = Some at
atomic_at (Fails rd at) = Some at
atomic_at (Updates op rd at operand) = Some at
atomic_at effect = None

abbrev pub value_of : Wrote → Option ℕ
value_of wrote.Nothing = None
value_of (wrote.Bytes at size value) = Some value

-- what a hart with this count does to the word by an effect that loaded this
abbrev pub on_word : ℕ → ℕ → ℕ → Effect → ℕ → List Atomic
on_word word h count effect loaded =
    if is_number word (atomic_at effect) then record { hart = h; count = count; stored = value_of (written effect loaded) } ∷ [] else []

-- and by its next move
abbrev pub next_atomic : ℕ → FlatState → ℕ → List Atomic
next_atomic word s h =
    option_map_or (λ x. on_word word h (slice_index s.counts h) (next_move x s.memory) (loaded_for s.memory (need_of (next_move x s.memory))))
    (slice_get s.harts h) []

-- and by an item
abbrev pub item_atomics : ℕ → FlatState → ℕ → Item → List Atomic
item_atomics word s h Move = next_atomic word s h
item_atomics word s h item = []

-- what all harts do to the word along an order, as far as each in turn can go
abbrev pub atomics_along : ℕ → Log → Replay FlatState → List ℕ → List Atomic
atomics_along word log s [] = []
atomics_along word log s (h ∷ order) =
    option_map_or (λ m. item_atomics word s.flat h (next_item (board (unit_of log)) log s h) ++ atomics_along word log m.0 order)
    (step (board (unit_of log)) log h s) []
