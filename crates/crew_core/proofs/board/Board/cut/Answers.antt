use Rattle.rv_words.specs.declared.shared.Cause.TheVariants.{Cut}
use Rattle.crew_core.proofs.Sets.{close_keeps}
use Rattle.crew_core.proofs.board.Board.cut.Goals as goal

pub invariant_of-self : goal.invariant_of-self
invariant_of-self g c =
    close_keeps c.self.inside.crew c.close.new.self Cut c.self.inside.spare.items c.self.inside.journal c.self.inside.turns _ _ _ c.self.inside.abandoned
    c.self.inside.prepared c.self.inside.abandoned c.self.invariant c.close.ensures
