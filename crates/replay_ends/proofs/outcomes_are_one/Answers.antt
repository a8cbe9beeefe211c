use Rattle.replay_ends.proofs.Outcomes.{outcome_is_there, outcome_is_one}
use Rattle.replay_ends.proofs.outcomes_are_one.Goals as goal

pub returns-clause-there : goal.returns-clause-there
returns-clause-there c = outcome_is_there

pub returns-clause-one : goal.returns-clause-one
returns-clause-one c = outcome_is_one
