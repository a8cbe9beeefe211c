use Rattle.std.proofs.Common.{sym, ◌∙◌}
use Rattle.log_order.specs.declared.series.Series.TheVariants.{Ordinals}
use Rattle.log_order.specs.Rows.{misplaced}
use Rattle.log_order.proofs.TimesAlong.{o8_where_wrong}
use Rattle.log_order.proofs.Refusals.{spot_fits, refused_with, carried, broken_o8}
use Rattle.log_order.proofs.judging.judge_ordinals.Goals as goal

pub tell-requires : goal.tell-requires
tell-requires c = λ p is. spot_fits c.args.l.now c.requires.small (misplaced Ordinals c.args.l.now) p (sym c.in_ok-rows.ensures.found ∙ is)

pub returns-in_err-tell-clause-refused : goal.returns-in_err-tell-clause-refused
returns-in_err-tell-clause-refused c =
    let log = c.args.l.now in
    carried log c.from_residual-in_err-tell.result c.in_err-tell.field-0.0 c.from_residual-in_err-tell.ensures.1
    (refused_with log 8 c.in_ok-rows.misplaced c.in_err-tell.field-0.0 c.in_err-tell.ensures
    (λ p is. broken_o8 log c.requires.streams c.requires.pages p (o8_where_wrong log p (sym c.in_ok-rows.ensures.found ∙ is))))
