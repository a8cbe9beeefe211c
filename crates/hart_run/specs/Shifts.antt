-- How a run keeps the unit of its pages.
use Rattle.std.specs.Prelude.{ℕ, ◌≡◌, ◌-◌, ◌^◌, ◌≤◌, List, Option}
use Rattle.rv_words.specs.declared.shared.Mode.{Mode}
use Rattle.rv_hart.specs.State.{Hart}
use Rattle.guest_pages.specs.Pages.{Pages}
use Rattle.run_model.specs.Run.{Run, IsOneRun}

-- the run that its parts are
abbrev pub run_of : Hart → ℕ → List (Option Mode) → Pages → Run
run_of hart count held frames = record { hart = hart; count = count; held = held; frames = frames }

-- the unit is this power of 2, and the mask has the bits of a place in a page
pub record IsShifted (r : Run) (shift mask : ℕ) : Type 0 where
  pub one : IsOneRun r
  pub unit : r.frames.unit ≡ 2 ^ shift
  pub most : shift ≤ 12
  pub mask_is : mask ≡ 2 ^ shift - 1
