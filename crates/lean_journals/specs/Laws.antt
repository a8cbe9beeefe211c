-- What changes hands along the journals of recordings.
use Rattle.std.specs.Prelude.{ℕ, ◌≡◌, List, Some}
use Rattle.log_entry.specs.Parts.{unit_of}
use Rattle.elf_image.specs.Image.{Image, IsWhole}
use Rattle.flat_machine.specs.State.{FlatState, flat_at_start}
use Rattle.replay_model.specs.Board.{board}
use Rattle.replay_model.specs.State.{start}
use Rattle.replay_model.specs.Journal.{order_of, IsLean}
use Rattle.turn_model.specs.Board.{Supply, Terms}
use Rattle.turn_model.specs.Lists.{RecordingEnd, recorded_by_list}
use Rattle.turn_model.specs.Rounds.{IsRecordedInRounds}
use Rattle.turn_model.specs.Laws.{OfHarts, machine_in, first_board}

-- the journal of a recording is lean: each Gain along it is the want of its hart, and each Yield is of a page that another hart wants
abbrev pub IsLeanFrom : FlatState → RecordingEnd FlatState → Type 0
IsLeanFrom first r = IsLean (board (unit_of r.log)) r.log (start r.log first) (order_of r.journal)

-- where the image is whole, so is the journal of every recording of it by a list of turns, whatever console and clock have to give
abbrev pub RecordingsAreLean : Type 0
RecordingsAreLean = (terms : Terms) (image : Image) (harts : ℕ) (supply : Supply) (list : List (ℕ × ℕ)) (r : RecordingEnd FlatState)
    → IsWhole image → terms.pages ≡ image.pages → OfHarts harts list
    → recorded_by_list (machine_in terms) terms list (first_board terms image harts supply) ≡ Some r
    → IsLeanFrom (flat_at_start image harts) r

-- and of every recording of it in rounds
abbrev pub RoundsAreLean : Type 0
RoundsAreLean = (terms : Terms) (image : Image) (harts : ℕ) (supply : Supply) (r : RecordingEnd FlatState)
    → IsWhole image → terms.pages ≡ image.pages → IsRecordedInRounds (machine_in terms) terms (first_board terms image harts supply) r
    → IsLeanFrom (flat_at_start image harts) r
