use Rattle.crew_parts.proofs.Laws as laws
use Rattle.crew_parts.proofs.states_are.Goals as goal

pub returns-clause-reached : goal.returns-clause-reached
returns-clause-reached c = laws.states_are

pub returns-clause-first : goal.returns-clause-first
returns-clause-first c = laws.first_boards
