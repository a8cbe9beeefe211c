use Rattle.std.proofs.Common.{◌<◌, length, sym, ◌∙◌, arith}
use Rattle.elf_image.specs.Elf.{headers}
use Rattle.elf_image.specs.Rules.{passes_file}
use Rattle.elf_image.proofs.Headers.{any_here, any_later}
use Rattle.elf_image.proofs.read.any_passes_file.Goals as goal

pub returns-then-passes_file : goal.returns-then-passes_file
returns-then-passes_file c =
    let less : c.loop-index.index < headers c.args.file.now = omega (arith, c.loop-index-test.true, c.from-index-end.ensures, c.half_at.ensures) in
    sym (c.loop-index.invariant
    ∙ any_here (passes_file (length c.args.file.now)) c.args.file.now c.loop-index.index c.segment.result less c.segment.ensures
    (sym c.passes_file.ensures ∙ c.if-passes_file.true))

pub loop-index-preserved : goal.loop-index-preserved
loop-index-preserved c =
    let less : c.loop-index.index < headers c.args.file.now = omega (arith, c.loop-index-test.true, c.from-index-end.ensures, c.half_at.ensures) in
    c.loop-index.invariant
    ∙ any_later (passes_file (length c.args.file.now)) c.args.file.now c.loop-index.index c.segment.result less c.segment.ensures
    (sym c.passes_file.ensures ∙ c.if-passes_file.false)
