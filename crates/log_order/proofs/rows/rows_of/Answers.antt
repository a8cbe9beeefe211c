use Rattle.std.proofs.Common.{◌≡◌, ℕ, ◌++◌, List, None, length, map, take, drop, replicate, sym, ap, ◌∙◌, subst, arith}
use Rattle.std.proofs.lemmas.Grind.{common_steps}
use Rattle.log_order.specs.Rows.{AreFilled}
use Rattle.log_order.proofs.Slots.{none_filled}
use Rattle.log_order.proofs.rows.rows_of.Goals as goal

front : (n : ℕ) (xs ys : List ℕ) → length xs ≡ n → take n (xs ++ ys) ≡ xs
front n xs ys e = grind (arith, common_steps)

pub fill_log-found-requires-clause-filled : goal.fill_log-found-requires-clause-filled
fill_log-found-requires-clause-filled c =
    let counts = c.count_log.new.counts in
    let size = c.count_log.ensures.length ∙ c.as_mut_slice.ensures.len in
    let same : c.as_slice.result.now ≡ counts =
    c.as_slice.ensures.value ∙ front c.in_ok-sizes.sizes.len counts (drop (length counts) c.in_ok-sizes.sizes.items) size in
    let rows : c.as_mut_slice-2.result.now ≡ map (λ n. replicate n None) counts =
    c.as_mut_slice-2.ensures.value ∙ c.in_ok-rows.ensures ∙ ap (map (λ n. replicate n None)) same in
    subst (λ z. AreFilled c.args.series c.args.l.now 0 0 z) (sym rows)
    (none_filled c.args.series c.args.l.now counts (size ∙ c.in_ok-sizes.ensures.len ∙ c.width.ensures) c.count_log.ensures.counts)
