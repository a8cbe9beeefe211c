use Rattle.run_model.specs.declared.asked.Ahead.TheVariants as ahead
use Rattle.replay_core.proofs.StateAfterItem.{ahead_is}
use Rattle.replay_core.proofs.EntriesInTurns.{look_free, look_wants, look_device}
use Rattle.replay_core.proofs.position.Position.look.Goals as goal

pub returns-in-Free-clause-makes : goal.returns-in-Free-clause-makes
returns-in-Free-clause-makes c = λ image s st a.
    look_free image c.args.self.now c.args.run.now c.args.hart s st a c.requires.next
    (ahead_is image c.args.self.now c.args.run.now c.args.hart s ahead.Free st a (c.in-Free.ensures.agrees c.args.hart s a))

pub returns-in-Wants-clause-makes : goal.returns-in-Wants-clause-makes
returns-in-Wants-clause-makes c = λ image s st a.
    look_wants image c.args.self.now c.args.run.now c.args.hart c.in-Wants.field-0 c.in-Wants.field-1 s st a c.requires.next
    (ahead_is image c.args.self.now c.args.run.now c.args.hart s (ahead.Wants c.in-Wants.field-0 c.in-Wants.field-1) st a
    (c.in-Wants.ensures.agrees c.args.hart s a))

pub returns-in-AtDevice-clause-makes : goal.returns-in-AtDevice-clause-makes
returns-in-AtDevice-clause-makes c = λ image s st a.
    look_device image c.args.self.now c.args.run.now c.args.hart c.in-AtDevice.field-0 s st a c.requires.next
    (ahead_is image c.args.self.now c.args.run.now c.args.hart s (ahead.AtDevice c.in-AtDevice.field-0) st a
    (c.in-AtDevice.ensures.agrees c.args.hart s a))
