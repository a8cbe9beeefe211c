-- The value of an option that stands at a place, `again` where the option was given before: the value, or the place
-- of the word that can't stand there.
use Rattle.std.specs.Prelude.{ℕ, ◌≡◌, ◌+◌, Bool, true, false, List, [], ◌∷◌, Option, Some, None, Result, Ok, Err, MatchResult, if◌then◌else◌}
use Rattle.command_words.specs.Texts.{is_name, number_in}
use Rattle.command_words.specs.Options.{options, AnOption, Next}
use Rattle.command_words.specs.declared.job.Usage.{Usage}
use Rattle.command_words.specs.declared.job.Job.{Job}
use Rattle.command_words.specs.Grammar.{name}

abbrev pub ok_or : ℕ → Option ℕ → Result ℕ ℕ
ok_or place (Some n) = Ok n
ok_or place None = Err place

abbrev pub number_behind : Bool → ℕ → List (List ℕ) → ℕ → ℕ → Result ℕ ℕ
number_behind true place words least greatest = Err place
number_behind false place [] least greatest = Err (place + 1)
number_behind false place (word ∷ words) least greatest = ok_or (place + 1) (number_in least greatest word)

abbrev pub name_behind : Bool → ℕ → List (List ℕ) → List (List ℕ) → Result ℕ ℕ
name_behind true place words names = Err place
name_behind false place [] names = Err (place + 1)
name_behind false place (word ∷ words) names = if is_name names word then Ok (place + 1) else Err (place + 1)

-- the words behind an option, with or without its value, and the place of the first of them
abbrev pub words_behind : Bool → List (List ℕ) → List (List ℕ)
words_behind true (value ∷ words) = words
words_behind true [] = []
words_behind false words = words

abbrev pub place_behind : Bool → ℕ → ℕ
place_behind true place = place + 1 + 1
place_behind false place = place + 1

-- a call answers what the definitions read
abbrev pub ReadsWords : {X : Type 0} → Result X ℕ → Result X Usage → Type 0
ReadsWords read result = MatchResult result (λ x. read ≡ Ok x) (λ u. read ≡ Err u.place)

-- a call read the option that stands at a place: the words from there on give what those behind it give
abbrev pub ReadsOption : {G : Type 0} → (G → List ℕ → Option (Next G)) → List (List ℕ) → G → ℕ → List ℕ → List (List ℕ)
    → Result (G × Bool) Usage → Type 0
ReadsOption option names given place word words result =
    MatchResult result
    (λ r. options option names (AnOption given) place (word ∷ words)
    ≡ options option names (AnOption r.0) (place_behind r.1 place) (words_behind r.1 words))
    (λ u. options option names (AnOption given) place (word ∷ words) ≡ Err u.place)

-- whatever is read behind the names of the image and the log, these words stop at a place of these names
abbrev pub NamesStop : List (List ℕ) → ℕ → Type 0
NamesStop words place =
    (rest : List ℕ → List ℕ → List (List ℕ) → Result Job ℕ)
    → name [] 1 words (λ image words. name (image ∷ []) 2 words (λ log words. rest image log words)) ≡ Err place
