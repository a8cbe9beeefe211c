use Rattle.std.proofs.Common.{subst}
use Rattle.replay_core.specs.Standing.{AnswersAt, LeadsOn}
use Rattle.replay_core.proofs.StagesGoOn.{on_item, somewhere_on}
use Rattle.replay_core.proofs.stage.Stage.go.Goals as goal

pub invariant_of-self : goal.invariant_of-self
invariant_of-self c =
    somewhere_on c.self.inside.replaying c.go.new.self (on_item c.self.inside.replaying c.go.new.self c.args.hart c.go.ensures.at) c.self.invariant

pub returns-clause-answer : goal.returns-clause-answer
returns-clause-answer c = subst (λ z. AnswersAt z c.args.hart c.go.result) c.self.view_is c.go.ensures.answer

pub returns-clause-at : goal.returns-clause-at
returns-clause-at c = subst (λ z. LeadsOn z c.go.new.self c.args.hart) c.self.view_is c.go.ensures.at
