use Rattle.std.proofs.Common.{subst}
use Rattle.order_rules.specs.Cursor.{first_left}
use Rattle.replay_model.specs.Items.{item_at}
use Rattle.replay_core.specs.declared.went.Next.TheVariants as nexts
use Rattle.replay_core.specs.Items.{IsNext}
use Rattle.replay_core.proofs.MovesMade.{place_there}
use Rattle.replay_core.proofs.EntriesMade.{has_ended, holds_on}
use Rattle.replay_core.proofs.position.Position.go.Goals as goal

pub next-requires : goal.next-requires
next-requires c = let t = c.requires.tied in place_there t.0 c.args.self.now c.args.run.now c.args.hart t.1.0 t.1.1 t.1.2

pub returns-in-Ended-clause-goes : goal.returns-in-Ended-clause-goes
returns-in-Ended-clause-goes c = λ image s st a.
    has_ended image c.args.self.now c.args.run.now c.args.hart s st a
    (subst (λ n. IsNext c.args.self.now.cursor
    (item_at n (first_left c.args.self.now.log c.args.self.now.cursor c.args.hart)) nexts.Ended) c.count.ensures c.in-Ended.ensures)

pub returns-in-Hold-clause-goes : goal.returns-in-Hold-clause-goes
returns-in-Hold-clause-goes c = λ image s st a.
    let held = subst
    (λ n. IsNext c.args.self.now.cursor
    (item_at n (first_left c.args.self.now.log c.args.self.now.cursor c.args.hart)) nexts.Hold) c.count.ensures c.in-Hold.ensures in
    holds_on image c.args.self.now c.args.run.now c.args.hart s st a held.0 held.1 held.2
