use Rattle.std.proofs.Common.{sym, subst}
use Rattle.replay_core.specs.Ends.{IsOutcomeOf}
use Rattle.revirt_tool.specs.Replays.{OutcomeAs}
use Rattle.revirt_tool.proofs.Replayed.{outcome_as}
use Rattle.revirt_tool.proofs.replaying.free_outcome_of.Goals as goal

pub returns-in-Ok : goal.returns-in-Ok
returns-in-Ok g c =
    subst (OutcomeAs c.args.log c.args.image.now) (sym c.told_of.ensures)
    (outcome_as c.args.log c.args.image.now (record { orderly = c.in_ok-orderly.ensures.0; whole = c.requires.whole; pages = c.requires.pages })
    c.in-Ok.outcome
    (subst (λ l. IsOutcomeOf l c.args.image.now c.in-Ok.outcome) c.in_ok-orderly.ensures.1 c.in-Ok.ensures))
