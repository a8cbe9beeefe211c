use Rattle.run_model.proofs.Laws as law
use Rattle.run_model.proofs.harts_agree.Goals as goal

pub returns-clause-placed : goal.returns-clause-placed
returns-clause-placed c = law.placed_agrees

pub returns-clause-counted : goal.returns-clause-counted
returns-clause-counted c = law.counted_agrees

pub returns-clause-answers : goal.returns-clause-answers
returns-clause-answers c = law.answers_agree
