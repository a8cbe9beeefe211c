use Rattle.replay_parts.proofs.Advancing.{legs_advance, parts_are_numbered, parts_have_unit, parts_unmoved}
use Rattle.replay_parts.proofs.runs_advance.Goals as goal

pub returns-clause-unit : goal.returns-clause-unit
returns-clause-unit c = parts_have_unit

pub returns-clause-numbers : goal.returns-clause-numbers
returns-clause-numbers c = parts_are_numbered

pub returns-clause-unmoved : goal.returns-clause-unmoved
returns-clause-unmoved c = parts_unmoved

pub returns-clause-legs : goal.returns-clause-legs
returns-clause-legs c = legs_advance
