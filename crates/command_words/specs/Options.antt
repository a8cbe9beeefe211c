-- Options in any order, a value being the next word.
use Rattle.std.specs.Prelude.{ℕ, ◌+◌, Bool, true, false, List, [], ◌∷◌, Option, Some, None, Result, Ok, Err, option_map, if◌then◌else◌}
use Rattle.command_words.specs.Texts.{is_name, number_in}

-- What may stand next, G being what was read: an option or the end of the words; the number of an option, in its
-- range; the name of a file. A value says by its number, or by the place of its name, what is read with it.
pub data Next (G : Type 0) : Type 0 where
  AnOption : G → Next G
  ANumber : ℕ → ℕ → (ℕ → G) → Next G
  AName : (ℕ → G) → Next G

-- what stands behind an option that may be given once; none where it was given
abbrev pub once : {N : Type 0} → Bool → N → Option N
once true next = None
once false next = Some next

module _ {G : Type 0} (option : G → List ℕ → Option (Next G)) (names : List (List ℕ)) where
  -- what may stand behind a word that stands at a place; none where that word can't stand there
  abbrev pub behind : Next G → ℕ → List ℕ → Option (Next G)
  behind (AnOption given) place word = option given word
  behind (ANumber least greatest with) place word = option_map (λ n. AnOption (with n)) (number_in least greatest word)
  behind (AName with) place word = if is_name names word then Some (AnOption (with place)) else None

  -- what the words from a place on give; else the place of the first that can't stand there, or their number
  -- where one is missing
  abbrev pub options : Next G → ℕ → List (List ℕ) → Result G ℕ
  options (AnOption given) place [] = Ok given
  options (ANumber least greatest with) place [] = Err place
  options (AName with) place [] = Err place
  options next place (word ∷ words) = elim (behind next place word) [ Some after ↦ options after (place + 1) words | None ↦ Err place ]
