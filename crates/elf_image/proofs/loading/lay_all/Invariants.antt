use Rattle.std.proofs.Common.{◌≤◌}
use Rattle.elf_image.specs.Elf.{headers}
use Rattle.elf_image.proofs.Headers.{rest}
use Rattle.elf_image.proofs.Overlay.{IsOverlay}
use Rattle.elf_image.proofs.loading.lay_all.Given as goal

abbrev pub invariant-loop-index : goal.invariant-loop-index
invariant-loop-index l = record {
  within : l.index ≤ headers l.file;
  overlay : IsOverlay l.file l.pages (rest l.file l.index) l.layer;
}

abbrev pub decreases-loop-index : goal.decreases-loop-index
decreases-loop-index l = l.index
