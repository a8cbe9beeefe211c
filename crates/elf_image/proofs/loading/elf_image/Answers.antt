use Rattle.std.proofs.Common.{◌≡◌, ◌+◌, ◌%◌, ◌≤◌, refl, arith}
use Rattle.std.proofs.lemmas.Grind.{common_steps}
use Rattle.elf_image.specs.Image.{memory_size}
use Rattle.elf_image.proofs.NoBrokenRule.{entry_kept, entry_inside}
use Rattle.elf_image.proofs.loading.elf_image.Goals as goal

pub of-requires : goal.of-requires
of-requires c =
    let kept = entry_kept c.args.pages c.args.file.now c.requires.elf c.requires.kept in
    let inside : (c.word_at.result % 4 ≡ 0) × ((0x80000000 ≤ c.word_at.result) × (c.word_at.result + 4 ≤ 0x80000000 + memory_size c.args.pages)) =
    entry_inside c.args.pages c.word_at.result (rw c.word_at.ensures kept) in
    record {
      least_pages = c.requires.least;
      pages_within = c.requires.most;
      unit = refl;
      size = grind (arith, common_steps);
      aligned = inside.0;
      from = inside.1.0;
      within = inside.1.1;
    }
