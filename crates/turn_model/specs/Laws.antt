-- What holds of each recording of a board.
use Rattle.std.specs.Prelude.{ℕ, ◌≡◌, ◌+◌, ◌<◌, ◌≤◌, List, [], ◌∷◌, ◌++◌, length, slice_get, Some}
use Rattle.rv_hart.specs.State.{Hart}
use Rattle.outside.specs.declared.console.Asked.{Asked}
use Rattle.log_entry.specs.Parts.{unit_of}
use Rattle.log_entry.specs.Size.{frame_size, size_of_log}
use Rattle.elf_image.specs.Image.{Image}
use Rattle.flat_machine.specs.State.{FlatState, flat_at_start}
use Rattle.flat_machine.specs.Runs.{run_from}
use Rattle.flat_machine.specs.declared.results.Step.{Step}
use Rattle.order_rules.specs.Orderly.{IsOrderly}
use Rattle.replay_model.specs.Board.{board}
use Rattle.replay_model.specs.State.{Replay, start}
use Rattle.replay_model.specs.Items.{IsFullOrder}
use Rattle.replay_model.specs.Acts.{acts_of}
use Rattle.replay_model.specs.Journal.{order_of, IsWantedGain, Throughout}
use Rattle.replay_model.specs.Inputs.{Agree}
use Rattle.replay_model.specs.Outcome.{Done, outcome_at}
use Rattle.turn_model.specs.Recordable.{Recordable, board_machine}
use Rattle.turn_model.specs.Board.{Board, Supply, Terms, unit_in, log_with, board_at_start}
use Rattle.turn_model.specs.Lists.{RecordingEnd, recorded_by_list}
use Rattle.turn_model.specs.Rounds.{IsRecordedInRounds}

-- a flat state of a board with so many harts and pages
pub record IsPagedBoard (harts pages : ℕ) (s : FlatState) : Type 0 where
  pub harts_size : length s.harts ≡ harts
  pub counts_size : length s.counts ≡ harts
  pub pages_are : (h : ℕ) (x : Hart) → slice_get s.harts h ≡ Some x → x.pages ≡ pages

-- numbers below one
abbrev pub EachBelow : ℕ → List ℕ → Type 0
EachBelow n [] = Unit {0}
EachBelow n (h ∷ hs) = (h < n) × EachBelow n hs

-- the rows of a list are of harts that the board has
abbrev pub OfHarts : ℕ → List (ℕ × ℕ) → Type 0
OfHarts harts [] = Unit {0}
OfHarts harts (row ∷ list) = (row.0 < harts) × OfHarts harts list

-- a recording took a first part of what console and clock had to give, and left the rest; its log agrees with what it took
pub record HasTaken (supply : Supply) (r : RecordingEnd FlatState) : Type 0 where
  pub asked : List Asked
  pub times : List ℕ
  pub answers_are : supply.answers ≡ asked ++ r.left.answers
  pub times_are : supply.times ≡ times ++ r.left.times
  pub takes_are : supply.takes ≡ length r.ended.devices.sent + r.left.takes
  pub agree : Agree (board (unit_of r.log)) r.log r.ended asked times r.ended.devices.sent

-- of a recording from a flat state: its log says the terms, has a stream for each hart, keeps to the log limit where a log of Ends
-- alone does, and is orderly; its journal obeys it, leads to the end that is recorded, and is full, and each Gain along it is the
-- want of its hart; at the end every hart has ended, and the cause agrees with the state; the journal's acts drive the flat machine
-- there; and the log agrees with console and clock
pub record IsRight (terms : Terms) (supply : Supply) (first : FlatState) (r : RecordingEnd FlatState) : Type 0 where
  pub terms_are : r.log ≡ log_with terms r.log.streams r.log.cause
  pub harts_are : length r.log.streams ≡ length first.harts
  pub size : frame_size (unit_of r.log) (length r.log.streams) ≤ terms.log_limit → size_of_log (unit_of r.log) r.log.streams ≤ terms.log_limit
  pub orderly : IsOrderly r.log
  pub end : Replay FlatState
  pub ended : end.flat ≡ r.ended
  pub obeyed : IsFullOrder (board (unit_of r.log)) r.log (start r.log first) (order_of r.journal) end
  pub gains : Throughout (board (unit_of r.log)) r.log (IsWantedGain (board (unit_of r.log))) (start r.log first) (order_of r.journal)
  pub done : outcome_at (board (unit_of r.log)) r.log end ≡ Some (Done r.ended)
  pub acts : run_from first (acts_of (board (unit_of r.log)) r.log (start r.log first) (order_of r.journal)) ≡ Some r.ended
  pub taken : HasTaken supply r

-- the board's machine under these terms, and the board of an image before any turn
abbrev pub machine_in : Terms → Recordable FlatState (List Step)
machine_in terms = board_machine (unit_in terms)

abbrev pub first_board : Terms → Image → ℕ → Supply → Board FlatState
first_board terms image harts supply = board_at_start terms harts (flat_at_start image harts) supply

-- so is every recording of an image by a list of turns, whatever console and clock have to give
abbrev pub RecordingsAreRight : Type 0
RecordingsAreRight = (terms : Terms) (image : Image) (harts : ℕ) (supply : Supply) (list : List (ℕ × ℕ)) (r : RecordingEnd FlatState)
    → terms.pages ≡ image.pages → OfHarts harts list
    → recorded_by_list (machine_in terms) terms list (first_board terms image harts supply) ≡ Some r
    → IsRight terms supply (flat_at_start image harts) r

-- and every recording of it in rounds
abbrev pub RoundsAreRight : Type 0
RoundsAreRight = (terms : Terms) (image : Image) (harts : ℕ) (supply : Supply) (r : RecordingEnd FlatState)
    → terms.pages ≡ image.pages → IsRecordedInRounds (machine_in terms) terms (first_board terms image harts supply) r
    → IsRight terms supply (flat_at_start image harts) r
