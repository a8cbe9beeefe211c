use Rattle.std.proofs.Common.{ap, length, arith}
use Rattle.elf_image.proofs.Bits.{marks_one, skips_marked}
use Rattle.elf_image.proofs.marks.Marks.mark.Goals as goal

pub invariant_of-self : goal.invariant_of-self
invariant_of-self c =
    let is = ap length c.self.view_is in
    skips_marked c.self.inside.words.items _ _ c.args.at c.self.invariant
    (marks_one c.self.inside.words.items c.args.at c.index_mut.result.now (omega (arith, is, c.requires)) c.index_mut.ensures.value)

pub returns : goal.returns
returns c =
    let is = ap length c.self.view_is in
    rw (← c.self.view_is) (marks_one c.self.inside.words.items c.args.at c.index_mut.result.now (omega (arith, is, c.requires)) c.index_mut.ensures.value)
