use Rattle.run_model.proofs.Laws as law
use Rattle.run_model.proofs.ahead_agrees.Goals as goal

pub returns : goal.returns
returns c = law.ahead_agrees
