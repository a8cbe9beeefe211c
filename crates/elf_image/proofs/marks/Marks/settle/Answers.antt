use Rattle.std.proofs.Common.{ap, length, arith}
use Rattle.elf_image.proofs.Bits.{skips_full}
use Rattle.elf_image.proofs.marks.Marks.settle.Goals as goal

pub invariant_of-self : goal.invariant_of-self
invariant_of-self c =
    let is = ap length c.self.view_is in
    skips_full c.self.inside.words.items c.self.inside.next.items c.args.word (omega (arith, is, c.requires)) c.index.result.now c.index.ensures
    c.if-index.true c.self.invariant
