use Rattle.std.proofs.Common.{ℕ, ◌≡◌, ◌*◌, ◌-◌, ◌≤◌, ◌<◌, length, true}
use Rattle.elf_image.specs.Marks.{is_marked, Skips}
use Rattle.elf_image.proofs.marks.Marks.skip.Given as goal

abbrev pub invariant-loop-word : goal.invariant-loop-word
invariant-loop-word l = record {
  skips : Skips l.self-inside.words.items l.self-inside.next.items;
  same : l.self-inside.words ≡ l.initial.self-inside.words;
  forward : l.from ≤ l.word;
  within : l.word ≤ length l.self-inside.words.items;
  full : (at : ℕ) → 64 * l.from ≤ at → at < 64 * l.word → is_marked l.self-inside.words.items at ≡ true;
}

abbrev pub decreases-loop-word : goal.decreases-loop-word
decreases-loop-word l = length l.self-inside.words.items - l.word
