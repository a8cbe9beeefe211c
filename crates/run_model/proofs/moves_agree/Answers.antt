use Rattle.run_model.proofs.Laws as law
use Rattle.run_model.proofs.moves_agree.Goals as goal

pub returns : goal.returns
returns c = law.moves_agree
