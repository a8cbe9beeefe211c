-- Runs of the flat machine, what they end with, and the story of a hart.
use Rattle.std.specs.Prelude.{ℕ, ◌==◌, nat_eq, if◌then◌else◌, List, [], ◌∷◌, ◌++◌, Option, Some, None, slice_get}
use Rattle.std.specs.Option.{option_and_then, option_map_or, option_eq}
use Rattle.rv_words.specs.declared.shared.Cause.{Cause}
use Rattle.rv_hart.specs.State.{Hart}
use Rattle.rv_hart.specs.Effects.{reg}
use Rattle.rv_hart.specs.Moves.{trap_of, register_of}
use Rattle.rv_hart.specs.declared.effect.Effect.{Effect}
use Rattle.elf_image.specs.Image.{Image}
use Rattle.flat_machine.specs.State.{FlatState, flat_at_start}
use Rattle.flat_machine.specs.Moves.{fetched, move_of}
use Rattle.flat_machine.specs.Acts.{next}
use Rattle.flat_machine.specs.declared.act.Act.{Act}
use Rattle.flat_machine.specs.declared.act.Act.TheVariants.{Run, Touch, Poll, Lose}
use Rattle.flat_machine.specs.declared.results.Final.{Final}
use Rattle.flat_machine.specs.declared.results.Step.{Step}

-- the state after acts, where each of them can be made
abbrev pub run_from : FlatState → List Act → Option FlatState
run_from s [] = Some s
run_from s (act ∷ acts) = option_and_then (λ t. run_from t acts) (next act s)

-- the state after acts from the start state of an image
abbrev pub flat : Image → ℕ → List Act → Option FlatState
flat image harts acts = run_from (flat_at_start image harts) acts

-- what a run ends with
abbrev pub final_of : FlatState → Cause → Final
final_of s cause =
    record {
      cause = cause;
      stop = s.devices.stop;
      harts = s.harts;
      counts = s.counts;
      memory = s.memory;
      sent = s.devices.sent;
      time = s.devices.mtime;
    }

-- the register from x1 that a move set, with its value
abbrev pub register_written : ℕ → Hart → Option (ℕ × ℕ)
register_written rd after = if rd == 0 then None else Some (rd, reg after rd)

abbrev pub step_by : Hart → Option ℕ → Effect → Hart → Step
step_by before word effect after =
    record {
      pc = before.pc;
      word = word;
      cause = trap_of effect;
      wrote = register_written (register_of effect) after;
      after = after;
    }

-- the move from one state of a hart to the next
abbrev pub step_of : List ℕ → Hart → Hart → Step
step_of memory before after =
    step_by before (fetched before memory) (move_of before (fetched before memory)) after

-- the hart that an act moves
abbrev pub mover : Act → Option ℕ
mover (Run h) = Some h
mover (Touch h input) = Some h
mover (Poll h time) = None
mover (Lose h) = None

abbrev pub step_between : List ℕ → Option Hart → Option Hart → List Step
step_between memory (Some before) (Some after) = step_of memory before after ∷ []
step_between memory before after = []

-- what an act from one state to another adds to the story of a hart
abbrev pub told : ℕ → Act → FlatState → FlatState → List Step
told h act s t =
    if option_eq nat_eq (mover act) (Some h) then step_between s.memory (slice_get s.harts h) (slice_get t.harts h) else []

-- the moves of a hart along acts, as far as these can be made
abbrev pub story : ℕ → FlatState → List Act → List Step
story h s [] = []
story h s (act ∷ acts) = option_map_or (λ t. told h act s t ++ story h t acts) (next act s) []
