use Rattle.std.proofs.Common.{◌∙◌, ap₂, sym, subst, min}
use Rattle.crew_core.specs.Calls.{IsPast, poll_after}
use Rattle.crew_core.proofs.Resting.{past_of, goes_there}
use Rattle.crew_core.proofs.crew.Crew.goes_on.Goals as goal

pub until_at-requires : goal.until_at-requires
until_at-requires c =
    let t = c.requires.tied in
    subst (λ p. IsPast p c.count.result) (sym c.polled.ensures)
    (subst (IsPast _) (sym c.count.ensures) (past_of c.args.self.now c.args.run.now c.args.hart t.0 c.requires.hart t.1 t.2))

pub returns : goal.returns
returns c = λ b st a.
    goes_there c.args.self.now c.args.run.now c.args.hart _ b c.requires.hart
    (c.until_at.ensures ∙ ap₂ (λ n p. min c.args.self.now.limit (poll_after n p)) c.count.ensures c.polled.ensures) st a
