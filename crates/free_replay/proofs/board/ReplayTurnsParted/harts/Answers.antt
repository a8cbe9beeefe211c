use Rattle.std.proofs.Common.{sym, ap, length, ◌∙◌}
use Rattle.replay_parts.specs.Boards.{Plain}
use Rattle.free_replay.proofs.Parts.{parts_number}
use Rattle.free_replay.proofs.board.ReplayTurnsParted.harts.Goals as goal

pub returns : goal.returns
returns c = c.harts.ensures.number ∙ ap (λ (z : Plain). length z.log.streams) c.self.view_is ∙ sym (parts_number c.args.self.now)
