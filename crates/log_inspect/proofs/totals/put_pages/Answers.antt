use Rattle.std.proofs.Common.{◌≡◌, ℕ, ◌+◌, ◌++◌, ◌∙◌, ap, sym, string_bytes, arith}
use Rattle.std.specs.Prelude.{slice_index}
use Rattle.std.specs.List.{flat_map, range_with_len}
use Rattle.std.proofs.lemmas.List.{flat_map_more}
use Rattle.log_inspect.specs.declared.totals.Kind.TheVariants.{Gains}
use Rattle.log_inspect.specs.Totals.{total, total_line, line_of_page}
use Rattle.shared_types.proofs.Ranges.{range_next}
use Rattle.log_inspect.proofs.totals.put_pages.Goals as goal

pub loop-page-preserved : goal.loop-page-preserved
loop-page-preserved c =
    let log = c.args.l.now in
    let page = c.loop-page.page in
    let told = string_bytes c.loop-page.out in
    c.in_ok-put_page.ensures
    ∙ ap (λ n. told ++ total_line page n (slice_index c.args.yields.now page)) (c.requires.gains.1 page)
    ∙ ap (λ n. told ++ total_line page (total Gains log page) n) (c.requires.yields.1 page)
    ∙ ap (λ bs. bs ++ line_of_page log page) c.loop-page.invariant
    ∙ flat_map_more (λ p. line_of_page log p) (string_bytes c.args.out.now) (range_with_len 0 page) page
    ∙ ap (λ ps. string_bytes c.args.out.now ++ flat_map (λ p. line_of_page log p) ps) (sym (range_next page))
