use Rattle.std.proofs.Common.{◌≡◌, ℕ, ◌*◌, ◌^◌, ◌≤◌, length, take, flat_map}
use Rattle.std.specs.Prelude.{slice_index, count_by}
use Rattle.log_order.specs.Rows.{is_in_row}
use Rattle.log_order.proofs.counts.count_log.Given as goal

-- the entries of the harts so far are counted
abbrev pub invariant-loop-h : goal.invariant-loop-h
invariant-loop-h l = record {
  length : length l.counts ≡ length l.initial.counts;
  counted : (g : ℕ) → slice_index l.counts g ≡ count_by (is_in_row l.series g) (flat_map (λ s. s) (take l.h l.l.streams));
  few : (g : ℕ) → slice_index l.counts g ≤ l.h * 2 ^ 32;
}
