use Rattle.std.proofs.Common.{◌≡◌, ◌+◌, ◌-◌, ◌<◌, length, sym, ap, ◌∙◌, subst, arith, false, ◌∷◌}
use Rattle.elf_image.specs.Elf.{headers, segments}
use Rattle.elf_image.specs.Rules.{passes_file, passes_memory}
use Rattle.elf_image.proofs.Headers.{rest, rest_step, rest_end, rest_all, none_at}
use Rattle.elf_image.proofs.Overlay.{IsOverlay, blank_overlay, overlay_one, overlay_bytes}
use Rattle.elf_image.proofs.loading.lay_all.Goals as goal

pub loop-index-init : goal.loop-index-init
loop-index-init c =
    let file = c.args.file.now in
    let e : c.from-index.result ≡ headers file = c.from-index.ensures ∙ c.half_at.ensures in
    record {
      within = omega (arith, e);
      overlay = subst (λ segments. IsOverlay file c.args.pages segments c.args.layer.now) (sym (rest_end file c.from-index.result (omega (arith, e))))
          (blank_overlay file c.args.pages c.args.layer.now c.requires.blank);
    }

pub lay-requires : goal.lay-requires
lay-requires c =
    let file = c.args.file.now in
    let within = c.loop-index.invariant.within in
    let before : c.loop-index.index - 1 < headers file = omega (arith, within) in
    record {
      marks = c.loop-index.invariant.overlay.marks;
      size = c.loop-index.invariant.overlay.bytes;
      in_file = ap (passes_file (length file)) c.segment.ensures ∙ none_at (passes_file (length file)) file (c.loop-index.index - 1) before c.requires.in_file;
      in_memory = ap (passes_memory c.args.pages) c.segment.ensures
          ∙ none_at (passes_memory c.args.pages) file (c.loop-index.index - 1) before c.requires.in_memory;
    }

pub loop-index-preserved : goal.loop-index-preserved
loop-index-preserved c =
    let file = c.args.file.now in
    let index = c.loop-index.index in
    let within = c.loop-index.invariant.within in
    let before : index - 1 < headers file = omega (arith, within) in
    let kept : passes_file (length file) c.segment.result ≡ false = ap (passes_file (length file)) c.segment.ensures
    ∙ none_at (passes_file (length file)) file (index - 1) before c.requires.in_file in
    let in_memory : passes_memory c.args.pages c.segment.result ≡ false = ap (passes_memory c.args.pages) c.segment.ensures
    ∙ none_at (passes_memory c.args.pages) file (index - 1) before c.requires.in_memory in
    let more : rest file (index - 1) ≡ c.segment.result ∷ rest file index =
    rest_step file (index - 1) before ∙ ap (λ s. s ∷ rest file (index - 1 + 1)) (sym c.segment.ensures)
    ∙ ap (λ k. c.segment.result ∷ rest file k) (omega arith) in
    record {
      within = omega (arith, within);
      overlay = subst (λ segments. IsOverlay file c.args.pages segments c.lay.new.self) (sym more)
          (overlay_one file c.args.pages c.segment.result (rest file index) kept in_memory c.loop-index.layer c.lay.new.self c.loop-index.invariant.overlay
          c.lay.ensures);
    }

pub returns : goal.returns
returns c =
    let file = c.args.file.now in
    let overlay = c.loop-index.invariant.overlay in
    let all : rest file c.loop-index.index ≡ segments file = ap (rest file) (omega arith) ∙ rest_all file in
    record {
      bytes = overlay_bytes file c.args.pages (segments file) c.loop-index.layer
          (subst (λ segments. IsOverlay file c.args.pages segments c.loop-index.layer) all overlay);
      size = overlay.bytes;
    }
