use Rattle.run_model.proofs.Laws as law
use Rattle.run_model.proofs.start_agrees.Goals as goal

pub returns-clause-agrees : goal.returns-clause-agrees
returns-clause-agrees c = law.start_agrees

pub returns-clause-holds : goal.returns-clause-holds
returns-clause-holds c = law.nobody_holds

pub returns-clause-rows : goal.returns-clause-rows
returns-clause-rows c = law.nobody_has_rows
