use Rattle.std.proofs.Common.{arith}
use Rattle.replay_core.proofs.CountLimits.{some_harts}
use Rattle.replay_core.proofs.position.harts_of.Goals as goal

pub returns-clause-some : goal.returns-clause-some
returns-clause-some c = let some = some_harts c.args.log.now c.requires in grind (arith, some)
