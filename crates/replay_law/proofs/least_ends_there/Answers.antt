use Rattle.replay_law.proofs.Orders.{least_ends_there, orders_tell_outcome}
use Rattle.replay_law.proofs.least_ends_there.Goals as goal

pub returns-clause-state : goal.returns-clause-state
returns-clause-state c = least_ends_there

pub returns-clause-outcome : goal.returns-clause-outcome
returns-clause-outcome c = orders_tell_outcome
