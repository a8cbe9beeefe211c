-- What a replay came to.
use Rattle.std.specs.Prelude.{ℕ, ◌≡◌, List, [], ◌∷◌, Option, Some, None}
use Rattle.elf_image.specs.Image.{Image}
use Rattle.log_entry.specs.declared.log.Log.{Log}
use Rattle.log_entry.specs.Parts.{unit_of}
use Rattle.rv_words.specs.declared.shared.Cause.{Cause}
use Rattle.flat_machine.specs.State.{FlatState}
use Rattle.flat_machine.specs.Runs.{final_of}
use Rattle.replay_model.specs.Board.{board}
use Rattle.replay_model.specs.Outcome.{Outcome, IsOutcome, diverged}
use Rattle.replay_model.specs.Outcome as models
use Rattle.replay_law.specs.Laws.{first_flat}
use Rattle.replay_core.specs.declared.outcome.Outcome.{Outcome as Told}
use Rattle.replay_core.specs.declared.outcome.Outcome.TheVariants as told

-- an outcome of the definitions, as it is told: with the log's cause
abbrev pub told_by : Cause → Outcome FlatState → Told
told_by cause (models.Done s) = told.Done (final_of s cause)
told_by cause (models.Diverged hart count rule s) = told.Diverged hart count rule (final_of s cause)

-- the outcome of the replay of an image
abbrev pub IsOutcomeOf : Log → Image → Told → Type 0
IsOutcomeOf log image answer =
    (outcome : Outcome FlatState) × (IsOutcome (board (unit_of log)) log (first_flat log image) outcome × (answer ≡ told_by log.cause outcome))

-- the first of the diverged harts, with its rule
abbrev pub IsFirstOf : Option (ℕ × ℕ) → List (ℕ × ℕ) → Type 0
IsFirstOf None xs = xs ≡ []
IsFirstOf (Some x) xs = (others : List (ℕ × ℕ)) × (xs ≡ x ∷ others)
