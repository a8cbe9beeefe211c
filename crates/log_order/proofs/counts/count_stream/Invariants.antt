use Rattle.std.proofs.Common.{◌≡◌, ℕ, ◌+◌, length, take}
use Rattle.std.specs.Prelude.{slice_index, count_by}
use Rattle.log_order.specs.Rows.{is_in_row}
use Rattle.log_order.proofs.counts.count_stream.Given as goal

-- the entries so far are counted
abbrev pub invariant-loop-i : goal.invariant-loop-i
invariant-loop-i l = (length l.counts ≡ length l.initial.counts)
    × ((g : ℕ) → slice_index l.counts g ≡ slice_index l.initial.counts g + count_by (is_in_row l.series g) (take l.i l.s))
