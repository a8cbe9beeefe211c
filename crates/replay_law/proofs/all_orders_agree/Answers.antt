use Rattle.replay_law.proofs.Orders.{all_orders_agree}
use Rattle.replay_law.proofs.AtomicOrders.{atomics_agree}
use Rattle.replay_law.proofs.all_orders_agree.Goals as goal

pub returns-clause-state : goal.returns-clause-state
returns-clause-state c = all_orders_agree

pub returns-clause-atomics : goal.returns-clause-atomics
returns-clause-atomics c = atomics_agree
