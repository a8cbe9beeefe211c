use Rattle.std.proofs.Common.{◌∙◌, sym, true, false}
use Rattle.crew_core.proofs.Resting.{rests_there}
use Rattle.crew_core.proofs.crew.Crew.rests_at_limit.Goals as goal

pub returns-then-is_at_limit-clause-does : goal.returns-then-is_at_limit-clause-does
returns-then-is_at_limit-clause-does c = λ h b st a.
    rests_there c.args.self.now c.args.run.now h b true (sym c.is_at_limit.ensures.value ∙ c.if-is_at_limit.true) st a

pub returns-clause-does : goal.returns-clause-does
returns-clause-does c = λ h b st a.
    rests_there c.args.self.now c.args.run.now h b false (sym c.is_at_limit.ensures.value ∙ c.if-is_at_limit.false) st a
