use Rattle.std.proofs.Common.{◌≡◌}
use Rattle.std.specs.List.{list_any}
use Rattle.elf_image.specs.Elf.{segments}
use Rattle.elf_image.specs.Rules.{passes_memory}
use Rattle.elf_image.proofs.Headers.{rest}
use Rattle.elf_image.proofs.read.any_passes_memory.Given as goal

-- none passed so far
abbrev pub invariant-loop-index : goal.invariant-loop-index
invariant-loop-index l = list_any (passes_memory l.pages) (segments l.file) ≡ list_any (passes_memory l.pages) (rest l.file l.index)
