use Rattle.crew_parts.proofs.Laws as laws
use Rattle.crew_parts.proofs.parts_stay.Goals as goal

pub returns-clause-others : goal.returns-clause-others
returns-clause-others c = laws.parts_stay

pub returns-clause-all : goal.returns-clause-all
returns-clause-all c = laws.nothing_is_changed

pub returns-clause-runs : goal.returns-clause-runs
returns-clause-runs c = laws.runs_stay_parts
