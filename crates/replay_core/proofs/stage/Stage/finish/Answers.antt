use Rattle.std.proofs.Common.{subst}
use Rattle.replay_core.specs.Standing.{ComesTo}
use Rattle.replay_core.proofs.stage.Stage.finish.Goals as goal

pub returns : goal.returns
returns c = subst (λ z. ComesTo z c.finish.result) c.self.view_is c.finish.ensures
