-- What holds of boards as plain data, and of their parts.
use Rattle.std.specs.Prelude.{ℕ, ◌≡◌, ◌≢◌, ◌+◌, ◌<◌, ◌≤◌, Bool, slice_index, Option, Some, length, unwrap_or}
use Rattle.rv_words.specs.declared.shared.Cause.{Cause}
use Rattle.rv_words.specs.Limits.{page_bytes}
use Rattle.elf_image.specs.Image.{Image, IsWhole}
use Rattle.flat_machine.specs.State.{FlatState, flat_at_start}
use Rattle.replay_model.specs.State.{IsCrewState}
use Rattle.run_model.specs.Run.{Run}
use Rattle.run_model.specs.Numbers.{AreNumbered}
use Rattle.run_model.specs.Legs.{KeepsPages, MakesLeg}
use Rattle.run_model.specs.declared.asked.Pause.{Pause}
use Rattle.turn_model.specs.Board.{Board, Order, Supply, board_at_start}
use Rattle.turn_model.specs.Lists.{whole_leg}
use Rattle.turn_model.specs.Turn.{turn}
use Rattle.turn_laws.specs.Reached.{Reached}
use Rattle.turn_laws.specs.Supplies.{followed_by}
use Rattle.crew_parts.specs.Boards.{Plain, World, IsBoardOf, IsReached, the_board, the_machine, board_of, plain_at_start, spent, state_of}
use Rattle.crew_parts.specs.Boards.{terms_of, told_to}
use Rattle.crew_parts.specs.Orders.{IsExact}
use Rattle.crew_parts.specs.Parts.{IsPart, IsPartAdvanced, KeepsParts, number_of, part_of, until_of}
use Rattle.crew_parts.specs.Turns.{SameTerms, GivesNoMore}

-- a board that turns led to, from the image's start under these terms
abbrev pub IsReachedFrom : Plain → Supply → Board FlatState → Type 0
IsReachedFrom p given b = Reached the_machine (terms_of p) p.harts (flat_at_start p.image p.harts) given b

-- Plain data with the entries, the journal and the counts of a reached board stand for its state.
abbrev pub StatesAre : Type 0
StatesAre = (p : Plain) (given : Supply) (b : Board FlatState) → IsReachedFrom p given b → p.streams ≡ b.streams → p.journal ≡ b.journal
    → p.counts ≡ b.at.flat.counts → state_of p ≡ b.at

-- Before any turn they stand for the board before any turn, which turns led to.
abbrev pub FirstBoards : Type 0
FirstBoards = (image : Image) (harts limit log_limit : ℕ) (world : World) (left : Supply)
    → (board_of (plain_at_start image harts limit log_limit world) left
    ≡ board_at_start (terms_of (plain_at_start image harts limit log_limit world)) harts (flat_at_start image harts) left)
    × IsReached (plain_at_start image harts limit log_limit world)

-- what holds of the state of a board that turns led to
pub record IsSoundBoard (p : Plain) : Type 0 where
  pub streams : length p.streams ≡ p.harts
  pub crew : IsCrewState the_board (state_of p)
  pub numbered : AreNumbered (state_of p).flat

abbrev pub BoardsAreSound : Type 0
BoardsAreSound = (p : Plain) → IsWhole p.image → IsReached p → IsSoundBoard p

-- To name a hart of the board as the favoured one, or to close it, leads from such boards to such boards.
abbrev pub BoardsSet : Type 0
BoardsSet = (p : Plain) → IsReached p
    → ((r : ℕ) → r < length p.streams → IsReached (record p { favoured = r }))
    × ((cause : Cause) → IsReached (record p { closed = Some (unwrap_or p.closed cause) }))

-- a turn of the hart with so many moves, where console and clock gave this and nothing is left
abbrev pub TurnsTo : Plain → Plain → ℕ → ℕ → Supply → Type 0
TurnsTo p q h n given = turn the_machine (terms_of p) h n (board_of p (followed_by given spent)) ≡ Some (board_of q spent)

-- It is the turn whatever is left, but what a console gives that has failed.
abbrev pub LeftIsFree : Type 0
LeftIsFree = (p q : Plain) (h n : ℕ) (given : Supply) → TurnsTo p q h n given → (left : Supply) → GivesNoMore q left
    → turn the_machine (terms_of p) h n (board_of p (followed_by given left)) ≡ Some (board_of q left)

-- the moves are those that the hart's part was advanced by, and the counts are the states'
pub record IsTurnOf (p : Plain) (h n : ℕ) (r : Run) : Type 0 where
  pub whole : IsWhole p.image
  pub reached : IsReached p
  pub counts : p.counts ≡ (state_of p).flat.counts
  pub hart : h < p.harts
  pub part : IsPartAdvanced p h n r

-- A part's run is the part, advanced by no moves; and by those of a leg that ends no later than the part may move.
abbrev pub PartsUnmoved : Type 0
PartsUnmoved = (p : Plain) (h : ℕ) (r : Run) → IsPart p h r → r.count ≤ until_of p h → IsPartAdvanced p h 0 r

abbrev pub LegsAdvance : Type 0
LegsAdvance = (p : Plain) (h until : ℕ) (r after : Run) (pause : Pause) → IsWhole p.image → IsReached p → h < p.harts → IsPart p h r
    → KeepsPages r after → (leg : MakesLeg r.frames.unit after pause h until (state_of p)) → until ≤ until_of p h
    → IsPartAdvanced p h leg.leg.moves after

-- its frames are of the board's unit
abbrev pub PartsHaveUnit : Type 0
PartsHaveUnit = (p : Plain) (h : ℕ) (r : Run) → IsWhole p.image → IsReached p → h < p.harts → IsPart p h r → r.frames.unit ≡ page_bytes

-- and it has its hart's number
abbrev pub PartsAreNumbered : Type 0
PartsAreNumbered = (p : Plain) (h n : ℕ) (r : Run) → IsWhole p.image → IsReached p → IsPartAdvanced p h n r → number_of r ≡ h

-- The run's count tells the moves, and the hart's leg has them.
abbrev pub MovesAreTold : Type 0
MovesAreTold = (p : Plain) (h n : ℕ) (r : Run) → IsTurnOf p h n r
    → (r.count ≡ slice_index p.counts h + n) × ((left : Supply) → n ≤ whole_leg the_machine (terms_of p) h (board_of p left))

-- Such a turn leads to a board that turns led to,
abbrev pub TurnsReach : Type 0
TurnsReach = (p : Plain) (h n : ℕ) (r : Run) (given : Supply) (c : Board FlatState) → IsTurnOf p h n r
    → turn the_machine (terms_of p) h n (board_of p (followed_by given spent)) ≡ Some c → c.supply ≡ spent
    → (supply : Supply) × IsReachedFrom p supply c

-- and leaves the parts of the other harts.
abbrev pub PartsStay : Type 0
PartsStay = (p q : Plain) (h n g : ℕ) (r : Run) (given : Supply) → IsTurnOf p h n r → TurnsTo p q h n given
    → q.counts ≡ (state_of q).flat.counts → SameTerms p q → g < p.harts → g ≢ h → part_of q g ≡ part_of p g

-- A run that is another hart's part stays it.
abbrev pub RunsGoOn : Type 0
RunsGoOn = (p q : Plain) (h n g : ℕ) (r x : Run) (given : Supply) → IsTurnOf p h n r → TurnsTo p q h n given → g < p.harts → g ≢ h
    → IsPart p g x → IsPart q g x

-- What a turn tells its hart is exact.
abbrev pub OrdersAreExact : Type 0
OrdersAreExact = (p q : Plain) (h n : ℕ) (r : Run) (given : Supply) (order : Order) → IsBoardOf p → h < p.harts → IsPartAdvanced p h n r
    → TurnsTo p q h n given → told_to q h ≡ Some order → IsExact (terms_of p) (board_of q spent) h order

-- No part speaks of the favoured hart, of the cause or of the room.
abbrev pub NothingIsChanged : Type 0
NothingIsChanged = (p : Plain) (favoured : ℕ) (closed : Option Cause) (abandoned prepared : Bool)
    → KeepsParts p (record p { favoured = favoured; closed = closed; abandoned = abandoned; prepared = prepared })
