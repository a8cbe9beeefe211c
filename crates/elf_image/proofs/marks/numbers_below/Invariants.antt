use Rattle.std.proofs.Common.{ℕ, ◌≡◌, ◌<◌, length, slice_index}
use Rattle.elf_image.proofs.marks.numbers_below.Given as goal

abbrev pub invariant-loop-number : goal.invariant-loop-number
invariant-loop-number l = record {
  size : length l.numbers.items ≡ l.number;
  numbers : (k : ℕ) → k < l.number → slice_index l.numbers.items k ≡ k;
}
