use Rattle.std.proofs.Common.{◌≡◌, subst, None, Some, Err}
use Rattle.elf_image.specs.Loading.{image_of}
use Rattle.elf_image.specs.Rules.{broken_rule, Reads}
use Rattle.revirt_tool.proofs.recording.image_for.Goals as goal

pub returns-in-Ok-clause-image : goal.returns-in-Ok-clause-image
returns-in-Ok-clause-image g c = (
  c.in_ok-file.ensures.file.0,
  (
    c.in_ok-file.file.items,
    c.in_ok-file.ensures.file.1,
    subst (λ f. broken_rule c.args.request.now.pages f ≡ None) c.as_slice.ensures.value c.in-Ok.ensures.0,
    subst (λ f. c.in-Ok.image ≡ image_of c.args.request.now.pages f) c.as_slice.ensures.value c.in-Ok.ensures.1,
  ),
)

pub returns-in-Err-Refused-clause-image : goal.returns-in-Err-Refused-clause-image
returns-in-Err-Refused-clause-image g c = (
  record {
    file = c.in_ok-file.file.items;
    fetched = c.in_ok-file.ensures.file.1;
    breaks = subst (λ f. broken_rule c.args.request.now.pages f ≡ Some c.in-Err-Refused.rule) c.as_slice.ensures.value
        (subst (λ e. Reads c.args.request.now.pages c.as_slice.result.now (Err e)) c.in-Err-Refused.field-0-is c.in-Err-Refused.ensures);
  },
  c.in_ok-file.ensures.file.0,
)
