-- The journal of every recording of a whole image is lean.
use Rattle.std.proofs.Common.{◌≡◌, ℕ, subst}
use Rattle.elf_image.specs.Image.{Image, IsWhole}
use Rattle.flat_machine.specs.State.{FlatState, flat_at_start}
use Rattle.crew_recording.proofs.Steady.{no_place}
use Rattle.turn_model.specs.Board.{Supply, Terms}
use Rattle.turn_model.specs.Lists.{RecordingEnd}
use Rattle.turn_model.specs.Laws.{IsPagedBoard, machine_in}
use Rattle.lean_journals.specs.Laws.{IsLeanFrom, RecordingsAreLean, RoundsAreLean}
use Rattle.lean_journals.proofs.BoardWants.{board_wants_stay}
use Rattle.turn_model.proofs.Boards.{reached_lean}
use Rattle.turn_model.proofs.RightRecordings.{faithful, starts, ComesTo, list_comes, rounds_come}

module _ (terms : Terms) (image : Image) (harts : ℕ) (supply : Supply) (pages : terms.pages ≡ image.pages) (whole : IsWhole image) where
  lean_where_reached : (r : RecordingEnd FlatState) → ComesTo terms image harts supply pages r → IsLeanFrom (flat_at_start image harts) r
  lean_where_reached r reached =
      let faith = faithful terms image harts supply pages in
      let from = starts terms image harts supply pages in
      let stay = board_wants_stay terms image harts faith pages from whole in
      subst (IsLeanFrom (flat_at_start image harts)) reached.3
      (reached_lean (machine_in terms) terms harts (IsPagedBoard harts terms.pages) faith (flat_at_start image harts) supply from (no_place harts) stay
      reached.0 reached.1)

pub recordings_are_lean : RecordingsAreLean
recordings_are_lean terms image harts supply list r whole pages of is =
    lean_where_reached terms image harts supply pages whole r (list_comes terms image harts supply pages list r of is)

pub rounds_are_lean : RoundsAreLean
rounds_are_lean terms image harts supply r whole pages is =
    lean_where_reached terms image harts supply pages whole r (rounds_come terms image harts supply pages r is)
