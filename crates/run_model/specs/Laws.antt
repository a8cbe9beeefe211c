-- Laws of runs: a run that agrees with a flat state moves, takes pages and gives them up as its hart does there.
use Rattle.std.specs.Prelude.{ℕ, ◌≡◌, ◌+◌, ◌<◌, ◌≤◌, length, replicate, List, Option, Some, None, IsSome}
use Rattle.rv_words.specs.declared.shared.Mode.{Mode}
use Rattle.rv_words.specs.declared.shared.Mode.TheVariants.{Write}
use Rattle.rv_hart.specs.State.{Hart}
use Rattle.rv_hart.specs.Effects.{effect_of}
use Rattle.rv_hart.specs.Moves.{after, need_of}
use Rattle.rv_hart.specs.Needs.{page_at}
use Rattle.rv_hart.specs.Places.{SameBoard}
use Rattle.rv_hart.specs.declared.effect.Effect.{Effect}
use Rattle.rv_hart.specs.declared.effect.Need.TheVariants.{Exclusive}
use Rattle.elf_image.specs.Image.{Image, IsWhole}
use Rattle.guest_pages.specs.Pages.{Pages}
use Rattle.flat_machine.specs.State.{FlatState}
use Rattle.flat_machine.specs.Moves.{fetched, next_move, word_round}
use Rattle.flat_machine.specs.declared.results.Step.{Step}
use Rattle.log_entry.specs.Parts.{strength}
use Rattle.order_rules.specs.Holders.{held, row, nobody}
use Rattle.replay_model.specs.Flat.{Flat}
use Rattle.replay_model.specs.Board.{board}
use Rattle.replay_model.specs.Items.{Move, CanGo, verdict_on, made}
use Rattle.replay_model.specs.State.{Replay, IsCrewState}
use Rattle.run_model.specs.Run.{Run, IsOneRun, NotWants, IsAbove, IsAtDevice, AheadAt, FrameOf, ahead_of, data_ahead, move_held, moved_by, run_at_start}
use Rattle.run_model.specs.Run.{touched_by, taken, given, store_given, hold_of, ends_with, word_of, word_held, claim_of, most_needed}
use Rattle.run_model.specs.Agreement.{Agrees, IsAhead, IsFirst, PageOf, StoreHas, Yields, word_seen, pages_known}
use Rattle.run_model.specs.Agreement.{with_hart, with_move, with_page_held, after_move}
use Rattle.run_model.specs.Legs.{DifferFor, KeepsPages, HasLed, MakesLeg}
use Rattle.run_model.specs.declared.asked.Ahead.TheVariants.{Free}
use Rattle.run_model.specs.declared.asked.Pause.{Pause}

abbrev board_of : Run → Flat FlatState (List Step)
board_of r = board r.frames.unit

-- what is ahead of a run is ahead of its hart
abbrev pub AheadAgrees : Type 0
AheadAgrees = (r : Run) (h : ℕ) (s : Replay FlatState) → Agrees r h s → IsAhead r.frames.unit h s (ahead_of r)

-- a run at its start agrees with the first state
abbrev pub StartAgrees : Type 0
StartAgrees = (id harts : ℕ) (image : Image) (s : Replay FlatState) → IsWhole image → id < harts → IsFirst image harts s
    → Agrees (run_at_start id harts image) id s

-- nobody holds a page of the first table, whose rows are of one size
abbrev pub NobodyHolds : Type 0
NobodyHolds = (pages harts page h : ℕ) → held (nobody pages harts) page h ≡ None

abbrev pub NobodyHasRows : Type 0
NobodyHasRows = (pages harts page : ℕ) → page < pages → row (nobody pages harts) page ≡ replicate harts None

-- where it wants no page, the run sees the hart's next move
abbrev pub SeesMove : Type 0
SeesMove = (r : Run) (h : ℕ) (s : Replay FlatState) → Agrees r h s → NotWants (ahead_of r) → next_move r.hart s.flat.memory ≡ move_held r

-- and the word that this fetches
abbrev pub SeesFetched : Type 0
SeesFetched = (r : Run) (h : ℕ) (s : Replay FlatState) → Agrees r h s → NotWants (ahead_of r) → word_of r ≡ fetched r.hart s.flat.memory

-- it sees the memory's word at the pc
abbrev pub SeesWord : Type 0
SeesWord = (r : Run) (h : ℕ) (s : Replay FlatState) → Agrees r h s → word_of r ≡ word_seen r.frames.unit s h r.hart

-- the most in which its next move is known to need a page
abbrev pub SeesClaim : Type 0
SeesClaim = (r : Run) (h : ℕ) (s : Replay FlatState) (page : ℕ) → Agrees r h s
    → claim_of r page ≡ most_needed page (pages_known r.frames.unit s h r.hart)

-- the memory's bytes of a page that is held
abbrev pub SeesPage : Type 0
SeesPage = (r : Run) (h : ℕ) (s : Replay FlatState) (page : ℕ) (bytes : Option (List ℕ)) → Agrees r h s → FrameOf r page bytes
    → PageOf r.frames.unit s h page bytes

-- and each of its words
abbrev pub SeesHeld : Type 0
SeesHeld = (r : Run) (h : ℕ) (s : Replay FlatState) (at : ℕ) → Agrees r h s → 0x80000000 ≤ at → IsSome (hold_of r (page_at r.frames.unit at))
    → word_held r at ≡ word_round s.flat.memory at

-- a move whose word is fetched asks for what its data ask for
abbrev pub AsksByWord : Type 0
AsksByWord = (r : Run) (word : ℕ) → word_of r ≡ Some word → ahead_of r ≡ data_ahead r (need_of (effect_of r.hart word))

-- the page of its data isn't wanted where no page is
abbrev pub DataNotWanted : Type 0
DataNotWanted = (r : Run) → NotWants (ahead_of r) → NotWants (data_ahead r (need_of (move_held r)))

-- its data don't lie below memory
abbrev pub DataLieAbove : Type 0
DataLieAbove = (r : Run) → IsAbove (need_of (move_held r))

-- and the page of an atomic move, where it isn't wanted, is held in Write
abbrev pub ExclusiveIsHeld : Type 0
ExclusiveIsHeld = (r : Run) (at : ℕ) → NotWants (data_ahead r (Exclusive at)) → hold_of r (page_at r.frames.unit at) ≡ Some Write

-- the move of a run is a Run of the flat machine: they agree after it, which changed its hart alone and left the holders CREW
pub record IsMoved (r : Run) (h : ℕ) (s : Replay FlatState) : Type 0 where
  pub goes : verdict_on (board_of r) s h Move ≡ CanGo
  pub made : made (board_of r) s h Move ≡ Some (after_move r h s)
  pub agrees : Agrees (moved_by r (move_held r)) h (after_move r h s)
  pub others : DifferFor r.frames.unit h s (after_move r h s)
  pub crew : IsCrewState (board_of r) (after_move r h s)
  pub one : IsOneRun (moved_by r (move_held r))

-- so it is of each run whose next move asks for nothing
abbrev pub MovesAgree : Type 0
MovesAgree = (r : Run) (h : ℕ) (s : Replay FlatState) → Agrees r h s → IsOneRun r → IsCrewState (board_of r) s → ahead_of r ≡ Free → IsMoved r h s

-- a move that asks for nothing keeps what the run holds, and its frames but for pages held in Write
abbrev pub KeepsOnMove : Type 0
KeepsOnMove = (old r : Run) → KeepsPages old r → ahead_of r ≡ Free → KeepsPages old (moved_by r (move_held r))

-- a moved run is of one board
abbrev pub StaysOne : Type 0
StaysOne = (r : Run) → IsOneRun r → IsOneRun (moved_by r (move_held r))

-- as its hart is, whatever the move was and loaded
abbrev pub StaysOnBoard : Type 0
StaysOnBoard = (x : Hart) (e : Effect) (loaded : ℕ) → SameBoard x (after x e loaded)

-- another hart in the place of the hart
abbrev pub PlacedAgrees : Type 0
PlacedAgrees = (r : Run) (h : ℕ) (s : Replay FlatState) (x : Hart) → Agrees r h s → x.harts ≡ r.hart.harts
    → Agrees (record r { hart = x }) h (with_hart h x s)

-- and a move counted
abbrev pub CountedAgrees : Type 0
CountedAgrees = (r : Run) (h : ℕ) (s : Replay FlatState) (x : Hart) → Agrees r h s → x.harts ≡ r.hart.harts
    → Agrees (record r { hart = x; count = r.count + 1 }) h (with_move h x s)

-- a device's answer to the access that is next
abbrev pub AnswersAgree : Type 0
AnswersAgree = (r : Run) (h : ℕ) (s : Replay FlatState) (loaded : ℕ) → Agrees r h s → IsAtDevice (ahead_of r)
    → Agrees (touched_by r loaded) h (with_move h (after r.hart (next_move r.hart s.flat.memory) loaded) s)

-- a leg starts where the run stands
abbrev pub StartsLeg : Type 0
StartsLeg = (r : Run) (h : ℕ) (s : Replay FlatState) → IsCrewState (board_of r) s → Agrees r h s → HasLed r.frames.unit r h s

-- each move that asks for nothing leads on
abbrev pub LeadsOn : Type 0
LeadsOn = (unit : ℕ) (r : Run) (h : ℕ) (s : Replay FlatState) → HasLed unit r h s → IsOneRun r → ahead_of r ≡ Free
    → HasLed unit (moved_by r (move_held r)) h s

-- and the leg is made where the run pauses
abbrev pub EndsLeg : Type 0
EndsLeg = (unit : ℕ) (r : Run) (h until : ℕ) (s : Replay FlatState) (pause : Pause) → HasLed unit r h s → r.count ≤ until → AheadAt r until pause
    → MakesLeg unit r pause h until s

-- a page with the memory's bytes is taken
abbrev pub TakesAgree : Type 0
TakesAgree = (r : Run) (h page : ℕ) (s : Replay FlatState) (mode : Mode) (store : Pages) → Agrees r h s → IsOneRun r → page < length r.frames.pages
    → StoreHas r.frames.unit store page s → Agrees (taken r page mode store) h (with_page_held h page (Some mode) s)

-- a page is given up, or some of it
abbrev pub GivesAgree : Type 0
GivesAgree = (r : Run) (h page : ℕ) (s : Replay FlatState) (left : Option Mode) (store : Pages) → Agrees r h s → IsOneRun r → page < length r.frames.pages
    → length store.pages ≡ length r.frames.pages → strength left < strength (hold_of r page)
    → Yields r.frames.unit (given r page left store) (store_given r page (hold_of r page) store) h page left (ends_with r page) s
