use Rattle.crew_parts.proofs.Laws as laws
use Rattle.crew_parts.proofs.turns_are_known.Goals as goal

pub returns-clause-left : goal.returns-clause-left
returns-clause-left c = laws.left_is_free

pub returns-clause-reach : goal.returns-clause-reach
returns-clause-reach c = laws.turns_reach

pub returns-clause-moves : goal.returns-clause-moves
returns-clause-moves c = laws.moves_are_told

pub returns-clause-orders : goal.returns-clause-orders
returns-clause-orders c = laws.orders_are_exact
