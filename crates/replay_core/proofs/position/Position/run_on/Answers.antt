use Rattle.std.proofs.Common.{◌∙◌, ◌<◌, ℕ, length, sym, ap₂, subst, arith}
use Rattle.log_entry.specs.declared.log.Log.{Log}
use Rattle.order_rules.specs.Cursor.{first_left}
use Rattle.run_model.specs.declared.asked.Ahead.TheVariants as ahead
use Rattle.replay_core.proofs.LegsAsItems.{runs_on}
use Rattle.replay_core.proofs.MovesMade.{leg_is, place_there}
use Rattle.replay_core.proofs.StateAfterItem.{ahead_is}
use Rattle.replay_core.proofs.position.Position.run_on.Goals as goal

pub first_left-requires : goal.first_left-requires
first_left-requires c = let t = c.requires in
    subst (λ k. k < length c.args.self.now.cursor.places) (sym c.from.ensures) (place_there t.0 c.args.self.now c.args.run.now c.args.hart t.1.0 t.1.1 t.1.2)

pub returns-in-Free-clause-made : goal.returns-in-Free-clause-made
returns-in-Free-clause-made c = λ yes image s st a.
    let less : c.args.run.now.count < c.min-until.result = omega arith in
    runs_on image c.args.self.now c.args.run.now c.advance.new.self c.args.hart c.min-until.result c.advance.result s c.in-Some.entry.now st a
    (ap₂ (λ (l : Log) (k : ℕ). first_left l c.args.self.now.cursor k) (sym c.log.ensures.same) (sym c.from.ensures) ∙ c.in-Some.ensures.entry)
    (omega arith)
    (leg_is image c.args.self.now c.args.run.now c.advance.new.self c.args.hart c.min-until.result c.advance.result s st a c.advance.ensures.leg)
    c.advance.ensures.kept
    (ahead_is image c.args.self.now c.args.run.now c.args.hart s ahead.Free st a (c.in-Free.ensures.agrees c.args.hart s a)) less c.args.most (omega arith)
