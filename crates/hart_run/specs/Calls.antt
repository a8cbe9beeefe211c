-- What the calls of a run promise of each flat state that agrees with it.
use Rattle.std.specs.Prelude.{ℕ, ◌≡◌, Bool, List, Option, Some}
use Rattle.rv_words.specs.declared.shared.Mode.{Mode}
use Rattle.rv_csr.specs.Traps.{with_lines}
use Rattle.rv_hart.specs.State.{Hart}
use Rattle.rv_hart.specs.Moves.{after, with_csrs}
use Rattle.elf_image.specs.Image.{Image}
use Rattle.guest_pages.specs.Pages.{Pages}
use Rattle.flat_machine.specs.State.{FlatState}
use Rattle.flat_machine.specs.Moves.{next_move}
use Rattle.replay_model.specs.Board.{board}
use Rattle.replay_model.specs.State.{Replay, IsCrewState}
use Rattle.run_model.specs.Run.{Run, hold_of, most_needed, frames_given}
use Rattle.run_model.specs.Agreement.{Agrees, IsAhead, IsFirst, PageOf, StoreHas, Yields, word_seen, pages_known, with_hart, with_move, with_page_held}
use Rattle.run_model.specs.Legs.{MakesLeg}
use Rattle.run_model.specs.declared.asked.Ahead.{Ahead}
use Rattle.run_model.specs.declared.asked.Pause.{Pause}

-- it agrees with the first state of its board
abbrev pub StartIsRight : Image → ℕ → ℕ → Run → Type 0
StartIsRight image harts id r = (s : Replay FlatState) → IsFirst image harts s → Agrees r id s

-- the answer is what its hart's next move asks for
abbrev pub AheadIsRight : Run → Ahead → Type 0
AheadIsRight r ahead = (h : ℕ) (s : Replay FlatState) → Agrees r h s → IsAhead r.frames.unit h s ahead

-- the memory's word at the pc
abbrev pub WordAgrees : Run → Option ℕ → Type 0
WordAgrees r word = (h : ℕ) (s : Replay FlatState) → Agrees r h s → word ≡ word_seen r.frames.unit s h r.hart

-- the memory's bytes of the page
abbrev pub FrameAgrees : Run → ℕ → Option (List ℕ) → Type 0
FrameAgrees r page bytes = (h : ℕ) (s : Replay FlatState) → Agrees r h s → PageOf r.frames.unit s h page bytes

-- the most in which the next move is known to need the page
abbrev pub ClaimAgrees : Run → ℕ → Option Mode → Type 0
ClaimAgrees r page mode = (h : ℕ) (s : Replay FlatState) → Agrees r h s → mode ≡ most_needed page (pages_known r.frames.unit s h r.hart)

-- where the holders are CREW, the run made its leg
abbrev pub LegAgrees : Run → Run → ℕ → Pause → Type 0
LegAgrees old new until pause = (h : ℕ) (s : Replay FlatState) → IsCrewState (board old.frames.unit) s → Agrees old h s
    → MakesLeg old.frames.unit new pause h until s

-- its hart made the move with what the device answered
abbrev pub TouchAgrees : Run → Run → ℕ → Type 0
TouchAgrees old new loaded =
    (h : ℕ) (s : Replay FlatState) → Agrees old h s → Agrees new h (with_move h (after old.hart (next_move old.hart s.flat.memory) loaded) s)

-- the hart with these lines
abbrev pub lined : ℕ → Hart → Hart
lined lines x = with_csrs (with_lines lines x.csrs) x

-- its hart has these lines
abbrev pub LinesAgree : Run → Run → ℕ → Type 0
LinesAgree old new lines = (h : ℕ) (s : Replay FlatState) → Agrees old h s → Agrees new h (with_hart h (lined lines old.hart) s)

-- it holds the page in this mode, where the store had the memory's bytes
abbrev pub TakeAgrees : Run → Run → ℕ → Mode → Pages → Type 0
TakeAgrees old new page mode store =
    (h : ℕ) (s : Replay FlatState) → Agrees old h s → StoreHas old.frames.unit store page s → Agrees new h (with_page_held h page (Some mode) s)

-- it yielded the page to the store
abbrev pub GiveAgrees : Run → Run → ℕ → Option Mode → Pages → Bool → Type 0
GiveAgrees old new page left store ended = (h : ℕ) (s : Replay FlatState) → Agrees old h s → Yields old.frames.unit new store h page left ended s

-- its frames once the page's bytes are given to the store
abbrev pub page_given : Run → ℕ → Option Mode → Pages → Run
page_given r page left store = record r { frames = frames_given r page (hold_of r page) left store }
