use Rattle.std.proofs.Common.{subst}
use Rattle.replay_law.specs.Laws.{first_replay}
use Rattle.replay_core.specs.Ends.{IsOutcomeOf}
use Rattle.replay_core.proofs.telling.replay_one.Goals as goal

pub finish-requires : goal.finish-requires
finish-requires c = (c.args.image.now, (first_replay c.args.orderly c.args.image.now, c.in_ok-replaying.ensures.1))

pub returns : goal.returns
returns c =
    subst (λ log. IsOutcomeOf log c.args.image.now c.finish.result) c.in_ok-replaying.ensures.0
    (c.finish.ensures c.args.image.now (first_replay c.args.orderly c.args.image.now) c.in_ok-replaying.ensures.1)
