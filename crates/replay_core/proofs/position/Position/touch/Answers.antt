use Rattle.run_model.specs.declared.asked.Ahead.TheVariants as ahead
use Rattle.replay_core.proofs.StateAfterItem.{ahead_is}
use Rattle.replay_core.proofs.EntriesMade.{touch_lacks, touch_off}
use Rattle.replay_core.proofs.position.Position.touch.Goals as goal

pub returns-in-Wants-clause-goes : goal.returns-in-Wants-clause-goes
returns-in-Wants-clause-goes c =
    λ image s st a. touch_lacks image c.args.self.now c.args.run.now c.args.hart c.in-Wants.field-0 c.in-Wants.field-1 c.args.input s st a c.requires.next
    (ahead_is image c.args.self.now c.args.run.now c.args.hart s (ahead.Wants c.in-Wants.field-0 c.in-Wants.field-1) st a
    (c.in-Wants.ensures.agrees c.args.hart s a))

pub returns-in-Free-clause-goes : goal.returns-in-Free-clause-goes
returns-in-Free-clause-goes c =
    λ image s st a. touch_off image c.args.self.now c.args.run.now c.args.hart c.args.input s st a c.requires.next
    (ahead_is image c.args.self.now c.args.run.now c.args.hart s ahead.Free st a (c.in-Free.ensures.agrees c.args.hart s a))
