-- The next move of a hart on a memory, and what a store in it does to other harts.
use Rattle.std.specs.Prelude.{ℕ, ◌-◌, ◌*◌, ◌/◌, ◌==◌, if◌then◌else◌, Bool, false, List, Option, Some, None}
use Rattle.rv_words.specs.Memory.{word_at, low_bytes, put}
use Rattle.rv_words.specs.declared.shared.Access.{Access}
use Rattle.rv_hart.specs.State.{Hart}
use Rattle.rv_hart.specs.Effects.{effect_of, entry_effect, fetch_of}
use Rattle.rv_hart.specs.Moves.{with_reserved}
use Rattle.rv_hart.specs.declared.effect.Effect.{Effect}
use Rattle.rv_hart.specs.declared.effect.Fetch.{Fetch}
use Rattle.rv_hart.specs.declared.effect.Fetch.TheVariants as fetch
use Rattle.rv_hart.specs.declared.effect.Need.{Need}
use Rattle.rv_hart.specs.declared.effect.Need.TheVariants as need
use Rattle.rv_hart.specs.declared.effect.Wrote.{Wrote}
use Rattle.rv_hart.specs.declared.effect.Wrote.TheVariants as wrote

-- the place in memory of an address, and the aligned word there
abbrev pub place_in_memory : ℕ → ℕ
place_in_memory at = at - 0x80000000

abbrev pub word_round : List ℕ → ℕ → ℕ
word_round memory at = word_at memory (place_in_memory (at / 4 * 4))

-- the word that the next move fetches
abbrev pub fetched_by : List ℕ → Fetch → Option ℕ
fetched_by memory fetch.Interrupt = None
fetched_by memory fetch.Fault = None
fetched_by memory (fetch.At at) = Some (word_round memory at)

abbrev pub fetched : Hart → List ℕ → Option ℕ
fetched x memory = fetched_by memory (fetch_of x)

-- what a move does that fetched this word, or nothing
abbrev pub move_of : Hart → Option ℕ → Effect
move_of x None = entry_effect x
move_of x (Some word) = effect_of x word

abbrev pub next_move : Hart → List ℕ → Effect
next_move x memory = move_of x (fetched x memory)

-- the word that a move loads from memory
abbrev pub loaded_for : List ℕ → Need → ℕ
loaded_for memory (need.Load at) = word_round memory at
loaded_for memory (need.Exclusive at) = word_round memory at
loaded_for memory other = 0

-- the device access of a move
abbrev pub access_of : Need → Option Access
access_of (need.Device access) = Some access
access_of other = None

abbrev pub stored_by : List ℕ → Wrote → List ℕ
stored_by memory wrote.Nothing = memory
stored_by memory (wrote.Bytes at size value) = put memory (place_in_memory at) (low_bytes size value)

-- an aligned store lies in one word: it writes in the reserved one where that is its word
abbrev pub writes_in : ℕ → Option ℕ → Bool
writes_in at None = false
writes_in at (Some word) = at / 4 == word / 4

-- another hart after a store: its reservation ends where the store writes in that word
abbrev pub lost_by : Wrote → Hart → Hart
lost_by wrote.Nothing x = x
lost_by (wrote.Bytes at size value) x = if writes_in at x.reserved then with_reserved None x else x
