-- The numbers of harts (docs/board.md, "Control and status registers").
use Rattle.std.specs.Prelude.{ℕ, ◌≡◌, slice_get, Some}
use Rattle.rv_hart.specs.State.{Hart}
use Rattle.flat_machine.specs.State.{FlatState}

-- each hart has its number
abbrev pub AreNumbered : FlatState → Type 0
AreNumbered s = (h : ℕ) (x : Hart) → slice_get s.harts h ≡ Some x → x.csrs.hart ≡ h
