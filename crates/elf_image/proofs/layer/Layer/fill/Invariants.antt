use Rattle.elf_image.specs.Layers.{Fills, given_at}
use Rattle.elf_image.proofs.layer.Layer.fill.Given as goal

abbrev pub invariant-loop-at : goal.invariant-loop-at
invariant-loop-at l = Fills (given_at l.file l.segment) l.from l.at l.initial.self l.self
