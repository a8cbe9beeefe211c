use Rattle.std.proofs.Common.{◌≡◌, Bool, true, false, sym, ap, ◌∙◌, refl}
use Rattle.std.specs.Prelude.{IsTrue}
use Rattle.rv_asm.specs.Scan.{line_of}
use Rattle.rv_asm.proofs.Lines.{not_found, not_fitting, not_same}
use Rattle.rv_asm.proofs.assembler.word_of_line.Goals as goal

refused : {P : Type 0} (b : Bool) → b ≡ false → (P → IsTrue b) → P → ⊥
refused b e f p = let t : b ≡ true = f p in cc

pub returns-in-None : goal.returns-in-None
returns-in-None c = not_found c.args.line.now (ap line_of (sym c.scan_line.ensures) ∙ sym c.line_of.ensures ∙ c.in-None.is)

pub returns-else-line_fits : goal.returns-else-line_fits
returns-else-line_fits c =
    not_fitting c.args.line.now c.in-Some.l (ap line_of (sym c.scan_line.ensures) ∙ sym c.line_of.ensures ∙ c.in-Some.is)
    (refused false refl c.if-line_fits.ensures.1)

pub returns-else-branch : goal.returns-else-branch
returns-else-branch c =
    not_same c.args.line.now c.in-Some.l (ap line_of (sym c.scan_line.ensures) ∙ sym c.line_of.ensures ∙ c.in-Some.is)
    (refused c.in_ok-is_text_of-in-Some.field-0 c.if-branch.false c.in_ok-is_text_of-in-Some.ensures.1)
