use Rattle.std.proofs.Common.{sym, ◌∙◌}
use Rattle.rv_asm.proofs.Lines.{cut_back, whole_line}
use Rattle.rv_asm.proofs.assembler.cut.Goals as goal

pub returns-in-Some : goal.returns-in-Some
returns-in-Some c =
    cut_back c.args.bytes.now c.split_at.result.0.now c.split_at.result.1.now c.in-Some.n
    (sym c.newline.ensures ∙ c.in-Some.is) c.split_at.ensures.front c.split_at.ensures.back

pub returns-in-None : goal.returns-in-None
returns-in-None c = whole_line c.args.bytes.now (sym c.newline.ensures ∙ c.in-None.is)
