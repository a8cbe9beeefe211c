-- What is noted of a hart while a stage goes on.
use Rattle.std.specs.Prelude.{ℕ, ◌≡◌, ◌≢◌, ◌≤◌, ◌==◌, ◌&&◌, ◌⊎◌, nat_le, nat_lt, Bool, true, false, List, [], ◌∷◌, ◌++◌, Option}
use Rattle.elf_image.specs.Image.{Image}
use Rattle.log_entry.specs.Parts.{unit_of}
use Rattle.orders_law.specs.Orders.{Leads}
use Rattle.flat_machine.specs.State.{FlatState}
use Rattle.flat_machine.specs.Moves.{move_of}
use Rattle.flat_machine.specs.Runs.{step_by}
use Rattle.flat_machine.specs.declared.results.Step.{Step}
use Rattle.replay_model.specs.Board.{board}
use Rattle.replay_model.specs.State.{Replay}
use Rattle.replay_model.specs.Items.{step}
use Rattle.run_model.specs.Run.{Run, word_of}
use Rattle.replay_law.specs.Laws.{first_replay}
use Rattle.replay_core.specs.declared.notes.Notes.{Notes}
use Rattle.replay_core.specs.declared.notes.Seen.{Seen}
use Rattle.replay_core.specs.declared.replaying.Replaying.{Replaying}
use Rattle.replay_core.specs.Standing.{IsAt}
use Rattle.replay_core.specs.Stories.{moves_between, moves_of}

-- a move of a hart at this count is to be noted
abbrev pub notes_at : Notes → ℕ → ℕ → Bool
notes_at n h count = (h == n.hart) && (nat_le n.from count && nat_lt count n.to)

abbrev pub seen_of : Run → Seen
seen_of r = record { hart = r.hart; word = word_of r; count = r.count }

-- what was noted of an item, by its hart's run behind it: nothing where it is no move or not to be noted, and else that move
abbrev pub NotesItem : Notes → Notes → ℕ → Seen → Run → Type 0
NotesItem old new h before r =
    ((new ≡ old) × ((r.count ≡ before.count) ⊎ (notes_at old h before.count ≡ false)))
    ⊎ ((new.steps.items ≡ old.steps.items ++ step_by before.hart before.word (move_of before.hart before.word) r.hart ∷ [])
    × ((r.count ≢ before.count) × (notes_at old h before.count ≡ true)))

-- none of a hart's moves from this count up to that one is
abbrev pub IsQuiet : Notes → ℕ → ℕ → ℕ → Type 0
IsQuiet n h count until = h ≡ n.hart → (n.to ≤ count) ⊎ (until ≤ n.from)

-- the same moves are to be noted
pub record SameAim (old new : Notes) : Type 0 where
  pub hart : new.hart ≡ old.hart
  pub from : new.from ≡ old.from
  pub to : new.to ≡ old.to

-- where no move is missed, none was before, and so it is
abbrev pub HasAll : Notes → Notes → Type 0 → Type 0
HasAll old new is_so = new.missed ≡ false → (old.missed ≡ false) × is_so

-- the notes have what an order that led to this state of the stage tells of their hart
pub record HasNoted (image : Image) (stage : Replaying) (notes : Notes) (s : Replay FlatState) : Type 0 where
  pub at : IsAt image stage s
  pub made : List (ℕ × Option (List Step))
  pub leads : Leads (step (board (unit_of stage.board.log)) stage.board.log) (first_replay stage.board.log image) made s
  pub steps : notes.steps.items ≡ moves_between notes.from notes.to (moves_of stage.board.log notes.hart made)

-- where they have it at a state, so they have at one later
abbrev pub NotesOn : Replaying → Replaying → Notes → Notes → Type 0
NotesOn old new before after =
    (image : Image) (s : Replay FlatState) → HasNoted image old before s → (t : Replay FlatState) × HasNoted image new after t

-- and so it is where no move is missed
abbrev pub TellsOn : Replaying → Replaying → Notes → Notes → Type 0
TellsOn old new before after = HasAll before after (NotesOn old new before after)
