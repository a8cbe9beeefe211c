use Rattle.std.proofs.Common.{sym, ap, ◌∙◌}
use Rattle.crew_parts.specs.Boards.{Plain}
use Rattle.free_run.proofs.Parts.{parts_number}
use Rattle.free_run.proofs.board.RecordBoardParted.harts.Goals as goal

pub returns : goal.returns
returns g c = c.self.invariant.0 ∙ ap (λ (z : Plain). z.harts) c.self.view_is ∙ sym (parts_number c.args.self.now)
