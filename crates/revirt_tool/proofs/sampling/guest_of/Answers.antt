use Rattle.std.proofs.Common.{ap, ◌∙◌, subst, Err}
use Rattle.elf_image.specs.Loading.{image_of}
use Rattle.elf_image.specs.Rules.{Reads}
use Rattle.revirt_tool.proofs.Samples.{not_refused}
use Rattle.revirt_tool.proofs.sampling.guest_of.Goals as goal

pub returns-in-Ok : goal.returns-in-Ok
returns-in-Ok c = c.in-Ok.ensures.1 ∙ ap (image_of 8) (c.as_slice.ensures.value ∙ c.in_ok-file.ensures)

pub unreachable-requires : goal.unreachable-requires
unreachable-requires c =
    not_refused c.args.number c.in-Err-Refused.field-0-0 c.as_slice.result.now (c.as_slice.ensures.value ∙ c.in_ok-file.ensures)
    (subst (λ e. Reads 8 c.as_slice.result.now (Err e)) c.in-Err-Refused.field-0-is c.in-Err-Refused.ensures)
