use Rattle.std.proofs.Common.{◌≡◌, ◌≢◌, ◌∙◌, List, ℕ, Bool, false, true≢false, refl, sym, subst, None}
use Rattle.std.proofs.lemmas.Slice.Eq.{bytes_eq-Decides}
use Rattle.std.specs.Str.{bytes_eq}
use Rattle.elf_image.specs.Loading.{image_of}
use Rattle.elf_image.specs.Rules.{broken_rule}
use Rattle.revirt_tool.proofs.replaying.start_for.Goals as goal

-- lists that were compared and aren't one
other : (a b : List ℕ) (is : Bool) → is ≡ bytes_eq a b → is ≡ false → b ≢ a
other a b is test differ = λ e. true≢false (sym ((bytes_eq-Decides a b).1 (sym e)) ∙ sym test ∙ differ)

pub returns-clause-start : goal.returns-clause-start
returns-clause-start g c = (
  record {
    image = c.in-Ok.image;
    read = record {
      file = c.in_ok-file.file.items;
      fetched = record { held = λ told. c.in_ok-file.ensures.file.1.held (c.in_ok-file.ensures.tells told); within = c.in_ok-file.ensures.file.1.within };
      accepted = subst (λ f. broken_rule c.args.log.now.pages f ≡ None) c.as_slice.ensures.value c.in-Ok.ensures.0;
      read = subst (λ f. c.in-Ok.image ≡ image_of c.args.log.now.pages f) c.as_slice.ensures.value c.in-Ok.ensures.1;
    };
    named_is = refl;
    has_is = c.digest-digest.ensures;
    differ = other c.digest-digest.result c.args.log.now.image c.eq.result c.eq.ensures c.if-eq.false;
  },
  c.in_ok-file.ensures.file.0,
)
