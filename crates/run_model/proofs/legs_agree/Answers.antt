use Rattle.run_model.proofs.Laws as law
use Rattle.run_model.proofs.legs_agree.Goals as goal

pub returns-clause-starts : goal.returns-clause-starts
returns-clause-starts c = law.starts_leg

pub returns-clause-leads : goal.returns-clause-leads
returns-clause-leads c = law.leads_on

pub returns-clause-ends : goal.returns-clause-ends
returns-clause-ends c = law.ends_leg
