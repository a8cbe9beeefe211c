use Rattle.run_model.proofs.Laws as law
use Rattle.run_model.proofs.data_ask.Goals as goal

pub returns-clause-by_word : goal.returns-clause-by_word
returns-clause-by_word c = law.asks_by_word

pub returns-clause-not_wanted : goal.returns-clause-not_wanted
returns-clause-not_wanted c = law.data_not_wanted

pub returns-clause-above : goal.returns-clause-above
returns-clause-above c = law.data_lie_above

pub returns-clause-exclusive : goal.returns-clause-exclusive
returns-clause-exclusive c = law.exclusive_is_held
