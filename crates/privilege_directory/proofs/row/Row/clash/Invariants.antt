use Rattle.std.proofs.Common.{◌≡◌, ◌==◌, ◌&&◌, ◌<◌, ℕ, not, false, Some, None, slice_get, unwrap_or}
use Rattle.log_entry.specs.Parts.{conflict}
use Rattle.privilege_directory.proofs.row.Row.clash.Given as goal

abbrev pub invariant-loop-other : goal.invariant-loop-other
invariant-loop-other l = (g : ℕ) → g < l.other → (not (g == l.hart) && conflict (Some l.mode) (unwrap_or (slice_get l.self g) None)) ≡ false
