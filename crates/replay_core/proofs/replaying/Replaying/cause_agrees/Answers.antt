use Rattle.std.proofs.Common.{rules, ap}
use Rattle.log_entry.specs.declared.log.Log.{Log}
use Rattle.replay_core.proofs.OutcomesTold.{cause_is}
use Rattle.replay_core.proofs.replaying.Replaying.cause_agrees.Goals as goal

pub returns : goal.returns
returns c =
    cause_is c.args.self.now c.log.result.now.cause c.is_some-stopped.result c.all_at_limit.result c.cause_suits.result c.cause_suits.ensures
    (ap (λ (l : Log). l.cause) c.log.ensures.same) (search rules) c.all_at_limit.ensures
