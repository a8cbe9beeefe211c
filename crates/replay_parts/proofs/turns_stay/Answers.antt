use Rattle.replay_parts.proofs.Turned.{parts_stay, runs_go_on, turns_reach}
use Rattle.replay_parts.proofs.Rising.{turns_rise}
use Rattle.replay_parts.proofs.turns_stay.Goals as goal

pub returns-clause-reach : goal.returns-clause-reach
returns-clause-reach c = turns_reach

pub returns-clause-rise : goal.returns-clause-rise
returns-clause-rise c = turns_rise

pub returns-clause-parts : goal.returns-clause-parts
returns-clause-parts c = parts_stay

pub returns-clause-runs : goal.returns-clause-runs
returns-clause-runs c = runs_go_on
