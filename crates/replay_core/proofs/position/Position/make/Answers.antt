use Rattle.std.proofs.Common.{◌≡◌, subst, arith}
use Rattle.order_rules.specs.Cursor.{first_left}
use Rattle.replay_parts.specs.Parts.{until_by}
use Rattle.replay_core.specs.Standing.{Goes}
use Rattle.replay_core.proofs.MovesMade.{place_there}
use Rattle.replay_core.proofs.EntriesInTurns.{enters, entry_less, none_there}
use Rattle.replay_core.proofs.position.Position.make.Goals as goal

pub until-requires : goal.until-requires
until-requires c = let t = c.requires.tied in place_there t.0 c.args.self.now c.args.run.now c.args.hart t.1.0 t.1.1 t.1.2

pub returns-clause-makes : goal.returns-clause-makes
returns-clause-makes c = λ image s st a.
    let count = c.count-count.ensures in
    let until = subst (λ n. c.until.result ≡ until_by n (first_left c.args.self.now.log c.args.self.now.cursor c.args.hart)) count c.until.ensures in
    enters image c.args.self.now c.go.new.self c.args.run.now c.go.new.run c.args.hart s c.go.result st a
    (none_there image c.args.self.now c.args.run.now c.args.hart s st a (omega (arith, count, until))) (c.go.ensures.goes image s st a)

pub returns-clause-less : goal.returns-clause-less
returns-clause-less c = λ entry.
    let t = c.requires.tied in
    entry_less t.0 c.args.self.now c.go.new.self c.args.run.now c.go.new.run c.args.hart t.1.0 t.1.1 t.1.2 c.go.ensures.log
    (subst (Goes t.0 c.go.new.self c.go.new.run c.args.self.now.log c.args.hart t.1.0) entry (c.go.ensures.goes t.0 t.1.0 t.1.1 t.1.2))
