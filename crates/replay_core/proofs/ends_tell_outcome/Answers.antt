use Rattle.replay_core.proofs.EndsTell.{ends_least, ends_tell}
use Rattle.replay_core.proofs.ends_tell_outcome.Goals as goal

pub returns : goal.returns
returns c = record { least = ends_least; outcome = ends_tell }
