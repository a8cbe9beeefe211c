use Rattle.crew_parts.proofs.Laws as laws
use Rattle.crew_parts.proofs.runs_advance.Goals as goal

pub returns-clause-unit : goal.returns-clause-unit
returns-clause-unit c = laws.parts_have_unit

pub returns-clause-unmoved : goal.returns-clause-unmoved
returns-clause-unmoved c = laws.parts_unmoved

pub returns-clause-legs : goal.returns-clause-legs
returns-clause-legs c = laws.legs_advance

pub returns-clause-numbers : goal.returns-clause-numbers
returns-clause-numbers c = laws.parts_are_numbered
