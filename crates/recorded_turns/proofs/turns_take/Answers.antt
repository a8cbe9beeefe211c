use Rattle.recorded_turns.proofs.Taking.{takes_none, takes_then, takes_turn, takes_favour}
use Rattle.recorded_turns.proofs.turns_take.Goals as goal

pub returns-clause-none : goal.returns-clause-none
returns-clause-none c = takes_none

pub returns-clause-behind : goal.returns-clause-behind
returns-clause-behind c = takes_then

pub returns-clause-turn : goal.returns-clause-turn
returns-clause-turn c = takes_turn

pub returns-clause-favour : goal.returns-clause-favour
returns-clause-favour c = takes_favour
