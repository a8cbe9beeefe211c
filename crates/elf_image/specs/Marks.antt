-- Marked places, each a bit in words of 64, and what leads over the words that are full.
use Rattle.std.specs.Prelude.{ℕ, ◌≡◌, ◌≢◌, ◌+◌, ◌*◌, ◌/◌, ◌%◌, ◌≤◌, ◌<◌, ◌==◌, Bool, true, List, length, slice_index}
use Rattle.std.specs.Int.{bit_at}

abbrev pub is_marked : List ℕ → ℕ → Bool
is_marked words at = bit_at (slice_index words (at / 64)) (at % 64) == 1

-- from each word it leads to that word or to a later one, and all places between are marked
pub record Skips (words next : List ℕ) : Type 0 where
  pub size : length next ≡ length words + 1
  pub forward : (word : ℕ) → word ≤ length words → word ≤ slice_index next word
  pub within : (word : ℕ) → word ≤ length words → slice_index next word ≤ length words
  pub full : (word at : ℕ) → word ≤ length words → 64 * word ≤ at → at < 64 * slice_index next word → is_marked words at ≡ true

-- one place more is marked
pub record AddsMark (old new : List ℕ) (place : ℕ) : Type 0 where
  pub size : length new ≡ length old
  pub here : is_marked new place ≡ true
  pub others : (at : ℕ) → at ≢ place → is_marked new at ≡ is_marked old at
