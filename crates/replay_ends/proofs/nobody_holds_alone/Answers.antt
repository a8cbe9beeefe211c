use Rattle.replay_ends.proofs.NoDeadlock.{nobody_holds_alone}
use Rattle.replay_ends.proofs.nobody_holds_alone.Goals as goal

pub returns : goal.returns
returns c = nobody_holds_alone
