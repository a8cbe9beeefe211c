use Rattle.std.proofs.Common.{arith, subst, ◌+◌}
use Rattle.run_model.specs.Legs.{MakesLeg}
use Rattle.log_entry.specs.Parts.{unit_of}
use Rattle.run_model.specs.declared.asked.Ahead.TheVariants as ahead
use Rattle.replay_core.proofs.StateAfterItem.{ahead_is}
use Rattle.replay_core.proofs.MovesMade.{count_low, leg_is, moved, move_wants, move_at_device}
use Rattle.replay_core.proofs.position.Position.go_on.Goals as goal

pub overflow_add-count : goal.overflow_add-count
overflow_add-count c = let t = c.requires.tied in let low = count_low t.0 c.args.self.now c.args.run.now c.args.hart t.1.0 t.1.1 t.1.2 in
    let is = c.count-count.ensures in omega (arith, low, is)

pub returns-in-Free-clause-goes : goal.returns-in-Free-clause-goes
returns-in-Free-clause-goes c = λ image s st a.
    moved image c.args.self.now c.args.run.now _ c.args.hart _ s st a c.requires.next
    (ahead_is image c.args.self.now c.args.run.now c.args.hart s ahead.Free st a (c.in-Free.ensures.agrees c.args.hart s a))
    (subst (λ n. MakesLeg (unit_of c.args.self.now.log) c.advance.new.self c.advance.result c.args.hart (n + 1) s) c.count-count.ensures
    (leg_is image c.args.self.now c.args.run.now c.advance.new.self c.args.hart _ c.advance.result s st a c.advance.ensures.leg))
    c.advance.ensures.kept

pub returns-in-Wants-clause-goes : goal.returns-in-Wants-clause-goes
returns-in-Wants-clause-goes c =
    λ image s st a. move_wants image c.args.self.now c.args.run.now c.args.hart c.in-Wants.field-0 c.in-Wants.field-1 s st a c.requires.next
    (ahead_is image c.args.self.now c.args.run.now c.args.hart s (ahead.Wants c.in-Wants.field-0 c.in-Wants.field-1) st a
    (c.in-Wants.ensures.agrees c.args.hart s a))

pub returns-in-AtDevice-clause-goes : goal.returns-in-AtDevice-clause-goes
returns-in-AtDevice-clause-goes c =
    λ image s st a. move_at_device image c.args.self.now c.args.run.now c.args.hart c.in-AtDevice.field-0 s st a c.requires.next
    (ahead_is image c.args.self.now c.args.run.now c.args.hart s (ahead.AtDevice c.in-AtDevice.field-0) st a (c.in-AtDevice.ensures.agrees c.args.hart s a))
