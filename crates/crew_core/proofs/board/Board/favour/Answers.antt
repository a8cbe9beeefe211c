use Rattle.std.proofs.Common.{◌<◌, subst, sym}
use Rattle.crew_parts.specs.Boards.{Plain}
use Rattle.crew_core.proofs.Sets.{favour_keeps}
use Rattle.crew_core.proofs.board.Board.favour.Goals as goal

pub invariant_of-self : goal.invariant_of-self
invariant_of-self g c =
    let inside : c.args.hart < c.self.inside.crew.harts = subst (λ (z : Plain). c.args.hart < z.harts) (sym c.self.view_is) c.requires in
    favour_keeps c.self.inside.crew c.self.inside.spare.items c.self.inside.journal c.self.inside.turns _ _ _ _ _ c.args.hart c.self.invariant inside
