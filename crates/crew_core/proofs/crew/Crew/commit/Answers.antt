use Rattle.std.proofs.Common.{rules}
use Rattle.crew_core.proofs.Committing.{committed, favour_inside}
use Rattle.crew_core.proofs.crew.Crew.commit.Goals as goal

pub returns-clause-commits : goal.returns-clause-commits
returns-clause-commits c = λ b n st led. committed c.args.self.now _ c.args.run.now c.args.hart n b st led c.requires.hart c.requires.within
    (favour_inside c.args.self.now b c.args.hart c.args.run.now.count st) (search rules)
