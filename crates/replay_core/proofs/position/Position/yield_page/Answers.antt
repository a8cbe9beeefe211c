use Rattle.std.proofs.Common.{ap, refl}
use Rattle.board_backing.specs.declared.backing.Backing.{Backing}
use Rattle.replay_core.proofs.MovesMade.{place_there}
use Rattle.replay_core.proofs.EntriesMade.{page_there, yield_less, run_has, store_is, yield_goes}
use Rattle.replay_core.proofs.position.Position.yield_page.Goals as goal

pub yield_page-requires-clause-page : goal.yield_page-requires-clause-page
yield_page-requires-clause-page c = let t = c.requires.tied in
    page_there t.0 c.args.self.now c.args.run.now c.args.hart c.args.page c.requires.next.1.0 _ t.1.0 t.1.1 t.1.2 c.requires.next.1.1 refl

pub yield_page-requires-clause-less : goal.yield_page-requires-clause-less
yield_page-requires-clause-less c =
    let t = c.requires.tied in
    run_has c.args.run.now c.args.hart c.args.page _ t.1.0 t.1.2
    (yield_less t.0 c.args.self.now c.args.run.now c.args.hart c.requires.next.0 c.args.page c.requires.next.1.0 c.args.left t.1.0 t.1.1 t.1.2
    c.requires.next.1.1)

pub yield_page-requires-clause-store : goal.yield_page-requires-clause-store
yield_page-requires-clause-store c = let t = c.requires.tied in store_is t.0 c.args.self.now c.args.run.now c.args.hart t.1.0 t.1.1 t.1.2

pub pass-requires : goal.pass-requires
pass-requires c = let t = c.requires.tied in place_there t.0 c.args.self.now c.args.run.now c.args.hart t.1.0 t.1.1 t.1.2

pub returns-clause-goes : goal.returns-clause-goes
returns-clause-goes c = λ image s st a.
    yield_goes image c.args.self.now c.pass.new.self c.yield_page.new.self c.args.run.now c.yield_page.new.run c.args.hart c.args.page c.args.left s st a
    c.requires.next
    (ap (λ (b : Backing). b.devices) c.yield_page.ensures.backing) c.pass.ensures.log c.pass.ensures.backing c.pass.ensures.cursor
    c.yield_page.ensures.leads
