use Rattle.std.proofs.Common.{sym, subst}
use Rattle.replay_core.specs.Standing.{CanGoNowhere, ComesTo}
use Rattle.replay_core.proofs.stage.Stage.outcome.Goals as goal

pub outcome-requires-clause-stuck : goal.outcome-requires-clause-stuck
outcome-requires-clause-stuck c = subst CanGoNowhere (sym c.self.view_is) c.requires

pub returns : goal.returns
returns c = subst (λ z. ComesTo z c.outcome.result) c.self.view_is c.outcome.ensures
