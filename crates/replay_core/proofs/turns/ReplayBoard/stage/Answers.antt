use Rattle.std.proofs.Common.{sym, subst}
use Rattle.replay_parts.specs.Boards.{Plain, state_of}
use Rattle.replay_core.specs.Standing.{IsAt}
use Rattle.replay_core.specs.Turns.{AreParts, plain_of}
use Rattle.replay_core.proofs.TurnsTaken.{staged}
use Rattle.replay_core.proofs.turns.ReplayBoard.stage.Goals as goal

pub invariant_of-result : goal.invariant_of-result
invariant_of-result c = (
  c.self.inside.image.value,
  (
    state_of (plain_of c.self.inside.board c.self.inside.image.value c.self.inside.counts.items),
    staged (record { board = c.self.inside.board; runs = c.args.runs; ends = c.self.inside.ends }) c.self.inside.image.value c.self.inside.counts.items
        c.self.invariant (subst (λ (z : Plain). AreParts z c.args.runs.items) (sym c.self.view_is) c.requires),
  ),
)

pub returns-clause-at : goal.returns-clause-at
returns-clause-at c =
    subst (λ (z : Plain). IsAt z.image (record { board = c.self.inside.board; runs = c.args.runs; ends = c.self.inside.ends }) (state_of z)) c.self.view_is
    (staged (record { board = c.self.inside.board; runs = c.args.runs; ends = c.self.inside.ends }) c.self.inside.image.value c.self.inside.counts.items
    c.self.invariant (subst (λ (z : Plain). AreParts z c.args.runs.items) (sym c.self.view_is) c.requires))
