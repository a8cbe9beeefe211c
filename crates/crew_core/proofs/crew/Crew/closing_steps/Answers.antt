use Rattle.crew_core.proofs.StepOrder.{closing_rests, closing_goes}
use Rattle.crew_core.proofs.crew.Crew.closing_steps.Goals as goal

pub returns-in-Some : goal.returns-in-Some
returns-in-Some c = λ b st a.
    closing_rests c.args.hart c.args.self.now c.args.self.now c.args.run.now c.in-Some.order b (c.in-Some.ensures.does c.args.hart b st a)

pub returns-in-None : goal.returns-in-None
returns-in-None c = λ b st a.
    let rest = c.in-None.ensures.does c.args.hart b st a in
    closing_goes c.args.hart c.args.self.now c.args.run.now c.goes_on.result b rest (c.goes_on.ensures rest.to rest.stands rest.agrees)
