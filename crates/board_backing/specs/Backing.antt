-- The pages and devices of a board, beneath what its harts hold in frames of their own (docs/pages.md).
use Rattle.std.specs.Prelude.{ℕ, ◌≡◌, ◌≢◌, ◌<◌, ◌*◌, length, Bool, Option, Some}
use Rattle.rv_words.specs.Limits.{IsUnit}
use Rattle.rv_words.specs.declared.shared.Access.{Access}
use Rattle.rv_words.specs.declared.shared.Input.{Input}
use Rattle.rv_words.specs.declared.shared.Mode.{Mode}
use Rattle.rv_words.specs.declared.shared.Mode.TheVariants.{Write}
use Rattle.elf_image.specs.Image.{Image}
use Rattle.guest_pages.specs.Pages.{paged}
use Rattle.rv_hart.specs.Moves as moves
use Rattle.device_board.specs.State.{DevicesWithRoom, devices_at_start, with_time}
use Rattle.device_board.specs.Accesses.{touched}
use Rattle.flat_machine.specs.State.{FlatState}
use Rattle.flat_machine.specs.Acts.{with_lines_of}
use Rattle.flat_machine.specs.Moves.{next_move}
use Rattle.log_entry.specs.declared.log.Entry.TheVariants.{Gain, Yield, Poll, Touch}
use Rattle.log_entry.specs.Waits.{WaitList}
use Rattle.order_rules.specs.Holders.{Holders, held}
use Rattle.replay_model.specs.Board.{board}
use Rattle.replay_model.specs.Items.{effect, ends_reservation}
use Rattle.replay_model.specs.State.{Replay}
use Rattle.run_model.specs.Run.{Run, hold_of, store_given}
use Rattle.run_model.specs.Agreement.{Agrees, IsFirst, StoreHas, with_move}
use Rattle.board_backing.specs.declared.backing.Backing.{Backing}
use Rattle.board_backing.specs.declared.backing.Polled.{Polled}

-- no hart holds the page in Write
abbrev pub IsUnwritten : Holders → ℕ → Type 0
IsUnwritten holders page = (g : ℕ) → held holders page g ≢ Some Write

-- no hart but this one does
abbrev pub IsOthersUnwritten : Holders → ℕ → ℕ → Type 0
IsOthersUnwritten holders page h = (g : ℕ) → g ≢ h → held holders page g ≢ Some Write

-- the store's pages are those of the state's memory, with its bytes of each page that no hart holds in Write; and the devices are
-- the state's
pub record Backs (b : Backing) (s : Replay FlatState) : Type 0 where
  pub unit_is : IsUnit b.pages.unit
  pub number : length b.pages.pages ≡ length s.holders
  pub memory : length s.flat.memory ≡ length b.pages.pages * b.pages.unit
  pub devices_are : b.devices.devices ≡ s.flat.devices
  pub bytes : (page : ℕ) → page < length s.holders → IsUnwritten s.holders page → StoreHas b.pages.unit b.pages page s

-- a step of hart h led to this state: the backing backs it, with pages as long as before, and the hart's run agrees with it
pub record Leads (old new : Backing) (run : Run) (h : ℕ) (o : Option (Replay FlatState)) : Type 0 where
  pub at : Replay FlatState
  pub made : o ≡ Some at
  pub backs : Backs new at
  pub unit_is : new.pages.unit ≡ old.pages.unit
  pub agrees : Agrees run h at

-- the store's pages are those of the run's frames
abbrev pub IsStoreOf : Backing → Run → Type 0
IsStoreOf b run = (b.pages.unit ≡ run.frames.unit) × (length b.pages.pages ≡ length run.frames.pages)

-- the run is of a board of one hart, whose pages are the store's
abbrev pub IsDesk : Backing → Run → Type 0
IsDesk b r = IsStoreOf b r × (b.devices.devices.harts ≡ 1)

-- a Gain of the page, whatever its number and waits
abbrev pub GainLeads : Backing → Backing → Run → Run → ℕ → Mode → Type 0
GainLeads old new before after page mode =
    (h count seq : ℕ) (waits : WaitList) (s : Replay FlatState) → Backs old s → Agrees before h s → IsUnwritten s.holders page
    → Leads old new after h (effect (board old.pages.unit) s h (Gain count page seq mode waits))

-- a Yield of the page, whatever its number
abbrev pub YieldLeads : Backing → Backing → Run → Run → ℕ → Option Mode → Type 0
YieldLeads old new before after page left =
    (h count seq : ℕ) (s : Replay FlatState) → Backs old s → Agrees before h s → IsOthersUnwritten s.holders page h
    → Leads old new after h (effect (board old.pages.unit) s h (Yield count page seq left))

-- whether the Yield ends the hart's reservation
abbrev pub YieldEnds : Backing → Run → ℕ → Bool → Type 0
YieldEnds old before page ended =
    (h : ℕ) (s : Replay FlatState) → Agrees before h s → ended ≡ ends_reservation (board old.pages.unit) s h page

-- a Poll with this time and these lines
abbrev pub PollLeads : Backing → Backing → Run → Run → ℕ → Polled → Type 0
PollLeads old new before after h polled =
    (count ord : ℕ) (s : Replay FlatState) → Backs old s → Agrees before h s
    → Leads old new after h (effect (board old.pages.unit) s h (Poll count ord polled.time polled.bits))

-- a Touch with this input
abbrev pub TouchLeads : Backing → Backing → Run → Run → ℕ → Input → Type 0
TouchLeads old new before after h input =
    (count ord : ℕ) (s : Replay FlatState) → Backs old s → Agrees before h s
    → Leads old new after h (effect (board old.pages.unit) s h (Touch count ord input))

-- the input suits the access that is the hart's next move
abbrev pub Suits : Backing → Run → ℕ → Input → Bool → Type 0
Suits old before h input suited =
    (s : Replay FlatState) → Backs old s → Agrees before h s → suited ≡ (board old.pages.unit).suits s.flat h input

-- the devices made an access with this input
abbrev pub MadeBy : DevicesWithRoom → DevicesWithRoom → Access → Input → Type 0
MadeBy old new access input = (loaded : ℕ) × (touched old.devices access input ≡ Some (new.devices, loaded))

-- nothing is changed
abbrev pub AsBefore : Backing → Backing → Run → Run → Type 0
AsBefore old new before after = (new ≡ old) × (after ≡ before)

-- the backing once a page was yielded
abbrev pub backing_given : Backing → Run → ℕ → Backing
backing_given b run page = record b { pages = store_given run page (hold_of run page) b.pages }

-- the pages of an image and the devices at their start, with no room for a console byte
abbrev pub backing_at_start : Image → ℕ → Backing
backing_at_start image harts =
    record { pages = paged image.unit image.bytes; devices = record { devices = devices_at_start harts; spare = 0 } }

abbrev pub BacksFirst : Image → ℕ → Backing → Type 0
BacksFirst image harts b = (s : Replay FlatState) → IsFirst image harts s → Backs b s

-- the backing once a Poll made this time
abbrev pub devices_polled : Backing → ℕ → Backing
devices_polled b time = record b { devices = record b.devices { devices = with_time time b.devices.devices } }

-- the run's hart made its move with what the device answered, and then has its lines
abbrev pub AnswerAgrees : Backing → Run → Run → ℕ → ℕ → Type 0
AnswerAgrees b before after h loaded = (s : Replay FlatState) → Agrees before h s
    → Agrees after h (with_move h (with_lines_of b.devices.devices h (moves.after before.hart (next_move before.hart s.flat.memory) loaded)) s)
