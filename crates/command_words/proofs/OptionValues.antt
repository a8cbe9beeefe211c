-- An option whose value can't stand behind it.
use Rattle.std.proofs.Common.{◌≡◌, ℕ, Bool, true, false, List, [], ◌∷◌, Option, Err, arith}
use Rattle.std.proofs.lemmas.Grind.{common_steps}
use Rattle.command_words.specs.Options.{Next, AnOption, ANumber, AName, once, options}
use Rattle.command_words.specs.Behind.{number_behind, name_behind}

pub number_refused : {G : Type 0} (option : G → List ℕ → Option (Next G)) (names : List (List ℕ)) (given : G) (place : ℕ) (word : List ℕ)
    (words : List (List ℕ)) (again : Bool) (least greatest : ℕ) (with : ℕ → G) (at : ℕ) → option given word ≡ once again (ANumber least greatest with)
    → number_behind again place words least greatest ≡ Err at → options option names (AnOption given) place (word ∷ words) ≡ Err at
number_refused option names given place word words true least greatest with at row refused = grind (arith, common_steps)
number_refused option names given place word [] false least greatest with at row refused = grind (arith, common_steps)
number_refused option names given place word (w ∷ ws) false least greatest with at row refused = grind (arith, common_steps)

pub name_refused : {G : Type 0} (option : G → List ℕ → Option (Next G)) (names : List (List ℕ)) (given : G) (place : ℕ) (word : List ℕ)
    (words : List (List ℕ)) (again : Bool) (with : ℕ → G) (at : ℕ) → option given word ≡ once again (AName with)
    → name_behind again place words names ≡ Err at → options option names (AnOption given) place (word ∷ words) ≡ Err at
name_refused option names given place word words true with at row refused = grind (arith, common_steps)
name_refused option names given place word [] false with at row refused = grind (arith, common_steps)
name_refused option names given place word (w ∷ ws) false with at row refused = grind (arith, common_steps)
