use Rattle.std.proofs.Common.{◌++◌, ◌∷◌, [], slice_index_or, None, subst, sym, arith}
use Rattle.round_run.specs.Legs.{Goes, HaveGone}
use Rattle.round_run.proofs.Going.{gone_more}
use Rattle.round_run.proofs.legs.+legs.Goals as goal

pub legs-returns-clause-gone : goal.legs-returns-clause-gone
legs-returns-clause-gone g t c =
    let rest = c.pop.new.self.items in
    let is = c.in-Some.ensures.items in
    subst (λ l. HaveGone l c.push_reserved.new.self.items c.args.untils.now) (sym is)
    (subst (λ l. HaveGone (rest ++ c.in-Some.run' ∷ []) l c.args.untils.now) (sym c.push_reserved.ensures.items)
    (gone_more rest c.led.new.runs.items c.in-Some.run' c.in_ok-made.made c.args.untils.now c.in_ok-made.ensures.gone
    (subst (λ n. Goes c.in-Some.run' c.in_ok-made.made (slice_index_or c.args.untils.now n None))
    (let p = c.len-place.ensures in let l = c.pop.new.self.ok.0 in omega (arith, p, l)) c.in_ok-made.ensures.led)))
