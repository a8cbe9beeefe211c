use Rattle.std.proofs.Common.{rules, ◌≡◌, ◌∙◌, ◌/◌, sym, ap, length, replicate}
use Rattle.std.proofs.lemmas.List.{length-replicate}
use Rattle.std.proofs.lemmas.List.FromFn.{length-map-range_with_len}
use Rattle.guest_pages.specs.Pages.{Pages, paged, page_of}
use Rattle.run_model.specs.Run.{Run, run_at_start}
use Rattle.leg_speed.proofs.start.Goals as goal

pub loop-page-init : goal.loop-page-init
loop-page-init c =
    let number = length c.args.image.now.bytes / c.args.image.now.unit in
    let run_is : c.in_ok-run.run' ≡ run_at_start 0 1 c.args.image.now = search rules in
    let store_is : c.in_ok-store.store ≡ paged c.args.image.now.unit c.args.image.now.bytes = search rules in
    record {
      ends = search rules;
      pages = ap (λ (z : Run). length z.frames.pages) run_is ∙ length-replicate number (replicate c.args.image.now.unit 0)
          ∙ sym (ap (λ (z : Pages). length z.pages) store_is ∙ length-map-range_with_len (page_of c.args.image.now.unit c.args.image.now.bytes) 0 number);
      unit = ap (λ (z : Pages). z.unit) store_is ∙ sym (ap (λ (z : Run). z.frames.unit) run_is);
    }
