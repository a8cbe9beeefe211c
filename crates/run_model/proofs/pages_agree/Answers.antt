use Rattle.run_model.proofs.Laws as law
use Rattle.run_model.proofs.pages_agree.Goals as goal

pub returns-clause-takes : goal.returns-clause-takes
returns-clause-takes c = law.takes_agree

pub returns-clause-gives : goal.returns-clause-gives
returns-clause-gives c = law.gives_agree
