use Rattle.std.proofs.Common.{refl, sym, subst, ap, ◌∙◌}
use Rattle.crew_parts.specs.Boards.{Plain, EndsAs, spent}
use Rattle.crew_parts.specs.Parts.{AreParts}
use Rattle.crew_core.proofs.BoardEnds.{has_runs, ends_as}
use Rattle.crew_core.proofs.board.Board.finish.Goals as goal

pub finish-finished-requires : goal.finish-finished-requires
finish-finished-requires g c =
    let k = c.self.invariant in
    let parts = subst (λ (z : Plain). AreParts z c.args.runs.items) (sym c.self.view_is)
    (c.requires (ap (λ (z : Plain). z.abandoned) (sym c.self.view_is) ∙ c.if-abandoned.false)) in
    (_, k.stands, has_runs c.self.inside.crew _ c.deref.result.now spent k.stands refl (subst (AreParts _) (sym c.deref.ensures.value) parts))

pub returns-clause-ended : goal.returns-clause-ended
returns-clause-ended g c =
    let k = c.self.invariant in
    let parts = subst (λ (z : Plain). AreParts z c.args.runs.items) (sym c.self.view_is)
    (c.requires (ap (λ (z : Plain). z.abandoned) (sym c.self.view_is) ∙ c.if-abandoned.false)) in
    subst (λ (z : Plain). EndsAs z c.finish-finished.result.log c.finish-finished.result.ended c.into_list.result c.into_list-2.result) c.self.view_is
    (ends_as c.self.inside.crew _ c.deref.result.now c.finish-finished.result c.into_list.result c.into_list-2.result k.stands k.terms refl
    (subst (AreParts _) (sym c.deref.ensures.value) parts) c.finish-finished.ensures c.into_list.ensures c.into_list-2.ensures)
