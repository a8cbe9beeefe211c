use Rattle.replay_parts.proofs.Within.{first_boards, states_are}
use Rattle.replay_parts.proofs.states_are.Goals as goal

pub returns-clause-reached : goal.returns-clause-reached
returns-clause-reached c = states_are

pub returns-clause-first : goal.returns-clause-first
returns-clause-first c = first_boards
