-- The end of a board, gathered from its runs and its store.
use Rattle.std.specs.Prelude.{ℕ, ◌≡◌, ◌*◌, ◌<◌, List, length, slice_get, Some, None}
use Rattle.guest_pages.specs.Pages.{page_of}
use Rattle.rv_words.specs.Memory.{put}
use Rattle.rv_words.specs.declared.shared.Cause.{Cause}
use Rattle.flat_machine.specs.State.{FlatState}
use Rattle.flat_machine.specs.Runs.{final_of}
use Rattle.flat_machine.specs.declared.results.Final.{Final}
use Rattle.order_rules.specs.Holders.{row}
use Rattle.replay_model.specs.State.{Replay}
use Rattle.run_model.specs.Run.{Run, hold_of}
use Rattle.run_model.specs.Agreement.{Agrees}
use Rattle.hart_run.specs.Calls.{FrameAgrees}
use Rattle.board_backing.specs.declared.backing.Backing.{Backing}
use Rattle.board_backing.specs.declared.ends.Ends.{Ends}
use Rattle.board_backing.specs.Backing.{Backs}

-- the lists have a place for each hart, each count and each byte
pub record HasPlaces (e : Ends) (number bytes : ℕ) : Type 0 where
  pub harts : length e.harts.items ≡ number
  pub counts : length e.counts.items ≡ number
  pub memory : length e.memory.items ≡ bytes

-- runs and backing have the state between them
pub record Have (runs : List Run) (b : Backing) (s : Replay FlatState) : Type 0 where
  pub backs : Backs b s
  pub number : length runs ≡ length s.flat.harts
  pub counted : length runs ≡ length s.flat.counts
  pub rows : (page : ℕ) → page < length s.holders → length (row s.holders page) ≡ length s.flat.harts
  pub agree : (h : ℕ) (r : Run) → slice_get runs h ≡ Some r → Agrees r h s

abbrev pub HaveSome : List Run → Backing → Type 0
HaveSome runs b = (s : Replay FlatState) × Have runs b s

-- no run holds the page
abbrev pub IsNowhere : List Run → ℕ → Type 0
IsNowhere runs page = (h : ℕ) (r : Run) → slice_get runs h ≡ Some r → hold_of r page ≡ None

-- a run does, with these bytes
abbrev pub IsHeldSo : List Run → ℕ → List ℕ → Type 0
IsHeldSo runs page bytes = (h : ℕ) × ((r : Run) × ((slice_get runs h ≡ Some r) × FrameAgrees r page (Some bytes)))

-- the memory once the page has the bytes of each state that they have
abbrev pub PutsPage : List Run → Backing → ℕ → List ℕ → List ℕ → Type 0
PutsPage runs b page old new =
    (s : Replay FlatState) → Have runs b s → new ≡ put old (page * b.pages.unit) (page_of b.pages.unit s.flat.memory page)

-- the memory of each state that they have
abbrev pub IsMemory : List Run → Backing → List ℕ → Type 0
IsMemory runs b memory = (s : Replay FlatState) → Have runs b s → memory ≡ s.flat.memory

-- what each state that they have ends with
abbrev pub IsEnd : List Run → Backing → Cause → Final → Type 0
IsEnd runs b cause end = (s : Replay FlatState) → Have runs b s → end ≡ final_of s.flat cause
