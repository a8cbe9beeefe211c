use Rattle.replay_core.proofs.StagesGoOn.{comes_on, somewhere_on}
use Rattle.replay_core.proofs.replaying.Replaying.finish.Goals as goal

pub outcome-requires-clause-at : goal.outcome-requires-clause-at
outcome-requires-clause-at c = somewhere_on c.args.self c.run_out.new.self c.run_out.ensures.on c.requires

pub returns : goal.returns
returns c = comes_on c.args.self c.run_out.new.self c.outcome.result c.run_out.ensures.on c.run_out.ensures.log c.outcome.ensures
