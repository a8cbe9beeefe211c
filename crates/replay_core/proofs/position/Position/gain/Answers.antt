use Rattle.std.proofs.Common.{ap, refl}
use Rattle.board_backing.specs.declared.backing.Backing.{Backing}
use Rattle.replay_core.proofs.MovesMade.{place_there}
use Rattle.replay_core.proofs.EntriesMade.{page_there, gain_more, run_lacks, store_is, gain_goes}
use Rattle.replay_core.proofs.position.Position.gain.Goals as goal

pub gain-requires-clause-page : goal.gain-requires-clause-page
gain-requires-clause-page c = let t = c.requires.tied in
    page_there t.0 c.args.self.now c.args.run.now c.args.hart c.args.page c.requires.next.1.0 _ t.1.0 t.1.1 t.1.2 c.requires.next.1.1.1 refl

pub gain-requires-clause-less : goal.gain-requires-clause-less
gain-requires-clause-less c =
    let t = c.requires.tied in
    run_lacks c.args.run.now c.args.hart c.args.page _ t.1.0 t.1.2
    (gain_more t.0 c.args.self.now c.args.run.now c.args.hart c.requires.next.0 c.args.page c.requires.next.1.0 c.args.mode c.requires.next.1.1.0 t.1.0 t.1.1
    t.1.2 c.requires.next.1.1.1)

pub gain-requires-clause-store : goal.gain-requires-clause-store
gain-requires-clause-store c = let t = c.requires.tied in store_is t.0 c.args.self.now c.args.run.now c.args.hart t.1.0 t.1.1 t.1.2

pub pass-requires : goal.pass-requires
pass-requires c = let t = c.requires.tied in place_there t.0 c.args.self.now c.args.run.now c.args.hart t.1.0 t.1.1 t.1.2

pub returns-clause-goes : goal.returns-clause-goes
returns-clause-goes c = λ image s st a.
    gain_goes image c.args.self.now c.pass.new.self c.gain.new.self c.args.run.now c.gain.new.run c.args.hart c.args.page c.args.mode s st a c.requires.next
    (ap (λ (b : Backing). b.devices) c.gain.ensures.backing) c.pass.ensures.log c.pass.ensures.backing c.pass.ensures.cursor
    c.gain.ensures.leads
