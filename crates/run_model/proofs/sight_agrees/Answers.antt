use Rattle.run_model.proofs.Laws as law
use Rattle.run_model.proofs.sight_agrees.Goals as goal

pub returns-clause-next : goal.returns-clause-next
returns-clause-next c = law.sees_move

pub returns-clause-fetched : goal.returns-clause-fetched
returns-clause-fetched c = law.sees_fetched

pub returns-clause-word : goal.returns-clause-word
returns-clause-word c = law.sees_word

pub returns-clause-claim : goal.returns-clause-claim
returns-clause-claim c = law.sees_claim

pub returns-clause-page : goal.returns-clause-page
returns-clause-page c = law.sees_page

pub returns-clause-held : goal.returns-clause-held
returns-clause-held c = law.sees_held
