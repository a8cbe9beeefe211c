-- What the place of a refused word means.
use Rattle.std.specs.Prelude.{ℕ, ◌≡◌, ◌+◌, ◌<◌, ◌≤◌, ◌++◌, List, length, take, IsOk, Err}
use Rattle.command_words.specs.Grammar.{job_of}

-- these words begin words that are in the grammar
abbrev pub Begin : List (List ℕ) → Type 0
Begin words = (more : List (List ℕ)) × IsOk (job_of (words ++ more))

-- the words before the place begin words in the grammar; with the word at the place they don't
pub record IsFirstBad (words : List (List ℕ)) (place : ℕ) : Type 0 where
  pub within : place ≤ length words
  pub before : Begin (take place words)
  pub at_place : place < length words → Begin (take (place + 1) words) → ⊥

-- where words aren't in the grammar, the place is that of the first word that can't stand there
abbrev pub PlacesAreFirst : Type 0
PlacesAreFirst = (words : List (List ℕ)) (place : ℕ) → job_of words ≡ Err place → IsFirstBad words place
