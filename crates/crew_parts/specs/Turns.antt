-- A turn of the recorder's board (docs/recorder.md).
use Rattle.std.specs.Prelude.{ℕ, ◌≡◌, ◌≢◌, ◌+◌, ◌<◌, ◌++◌, false, List, [], length, slice_index, Option, Some, None, IsTrue}
use Rattle.rv_words.specs.declared.shared.Cause.{Cause}
use Rattle.rv_words.specs.declared.shared.Cause.TheVariants.{Fault}
use Rattle.outside.specs.Causes.{Rose}
use Rattle.outside.specs.Seen.{SeenClock, ToldBefore}
use Rattle.run_model.specs.Run.{Run}
use Rattle.turn_model.specs.Board.{Order, Supply}
use Rattle.turn_model.specs.Turn.{turn}
use Rattle.turn_laws.specs.Supplies.{followed_by}
use Rattle.crew_parts.specs.Boards.{Plain, World, the_machine, board_of, spent, state_of, terms_of, told_to}
use Rattle.crew_parts.specs.Orders.{IsExact}
use Rattle.crew_parts.specs.Parts.{IsPart, part_of}

-- so many bytes more were taken
abbrev pub Took : ℕ → List ℕ → List ℕ → Type 0
Took n old new = (bytes : List ℕ) × (length bytes ≡ n) × (new ≡ old ++ bytes)

-- the clock gave these answers
abbrev pub Gave : List ℕ → SeenClock → SeenClock → Type 0
Gave times k l = IsTrue l.tells → l.answers ≡ k.answers ++ times

-- console and clock gave this between two moments, where they tell it
pub record Gives (old new : World) (given : Supply) : Type 0 where
  pub tells_answers : ToldBefore old.console.tells_answers new.console.tells_answers
  pub tells_taken : ToldBefore old.console.tells_taken new.console.tells_taken
  pub tells_times : ToldBefore old.clock.tells new.clock.tells
  pub answers : IsTrue new.console.tells_answers → new.console.answers ≡ old.console.answers ++ given.answers
  pub taken : IsTrue new.console.tells_taken → Took given.takes old.console.taken new.console.taken
  pub times : Gave given.times old.clock new.clock

-- the console's count of faults rose where its failure closed the board, and else stayed
abbrev pub CountsFaults : Option Cause → Option Cause → ℕ → ℕ → Type 0
CountsFaults None (Some Fault) before now = Rose before now
CountsFaults old new before now = now ≡ before

abbrev pub IsSpent : Supply → Type 0
IsSpent left = (left.answers ≡ []) × (left.takes ≡ 0)

-- a console that failed gives nothing further
abbrev pub GivesNoMore : Plain → Supply → Type 0
GivesNoMore p left = p.closed ≡ Some Fault → IsSpent left

-- the bytes that the console took are those that were sent
abbrev pub SentIsTaken : Plain → Plain → Type 0
SentIsTaken old new = IsTrue new.now.console.tells_taken
    → (bytes : List ℕ) × (new.now.console.taken ≡ old.now.console.taken ++ bytes)
    × ((state_of new).flat.devices.sent ≡ (state_of old).flat.devices.sent ++ bytes)

-- the terms are as they were
pub record SameTerms (old new : Plain) : Type 0 where
  pub image : new.image ≡ old.image
  pub harts : new.harts ≡ old.harts
  pub limit : new.limit ≡ old.limit
  pub log_limit : new.log_limit ≡ old.log_limit
  pub first : new.first ≡ old.first

-- A turn of hart h was had: with the moves that its run made since its last turn it is the model's, whatever console and clock give
-- later; the hart is told to rest or to hold exactly where it has to; the run is again the hart's part, the parts of the other harts and
-- the terms are as they were, and a run that was another hart's part still is.
pub record HasTurn (old new : Plain) (h : ℕ) (before after : Run) (order : Order) : Type 0 where
  pub moves : ℕ
  pub moved : before.count ≡ slice_index old.counts h + moves
  pub given : Supply
  pub gives : Gives old.now new.now given
  pub turned : (left : Supply) → GivesNoMore new left
      → turn the_machine (terms_of old) h moves (board_of old (followed_by given left)) ≡ Some (board_of new left)
  pub faults : CountsFaults old.closed new.closed old.now.console.faults new.now.console.faults
  pub sent : SentIsTaken old new
  pub told : told_to new h ≡ Some order
  pub exact : IsExact (terms_of old) (board_of new spent) h order
  pub part : IsPart new h after
  pub others : (g : ℕ) → g < old.harts → g ≢ h → part_of new g ≡ part_of old g
  pub runs : (g : ℕ) (x : Run) → g < old.harts → g ≢ h → IsPart old g x → IsPart new g x
  pub terms : SameTerms old new
  pub abandoned : new.abandoned ≡ old.abandoned
  pub used : new.prepared ≡ false
