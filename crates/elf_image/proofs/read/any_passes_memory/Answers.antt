use Rattle.std.proofs.Common.{◌<◌, sym, ◌∙◌, arith}
use Rattle.elf_image.specs.Elf.{headers}
use Rattle.elf_image.specs.Rules.{passes_memory}
use Rattle.elf_image.proofs.Headers.{any_here, any_later}
use Rattle.elf_image.proofs.read.any_passes_memory.Goals as goal

pub returns-then-passes_memory : goal.returns-then-passes_memory
returns-then-passes_memory c =
    let less : c.loop-index.index < headers c.args.file.now = omega (arith, c.loop-index-test.true, c.from-index-end.ensures, c.half_at.ensures) in
    sym (c.loop-index.invariant
    ∙ any_here (passes_memory c.args.pages) c.args.file.now c.loop-index.index c.segment.result less c.segment.ensures
    (sym c.passes_memory.ensures ∙ c.if-passes_memory.true))

pub loop-index-preserved : goal.loop-index-preserved
loop-index-preserved c =
    let less : c.loop-index.index < headers c.args.file.now = omega (arith, c.loop-index-test.true, c.from-index-end.ensures, c.half_at.ensures) in
    c.loop-index.invariant
    ∙ any_later (passes_memory c.args.pages) c.args.file.now c.loop-index.index c.segment.result less c.segment.ensures
    (sym c.passes_memory.ensures ∙ c.if-passes_memory.false)
