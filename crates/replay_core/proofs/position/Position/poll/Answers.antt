use Rattle.std.proofs.Common.{rules, ◌≡◌, ◌∙◌, sym, true, None, ap}
use Rattle.std.specs.Prelude.{is_some}
use Rattle.replay_core.proofs.MovesMade.{place_there}
use Rattle.replay_core.proofs.DeviceEntries.{device_hart, poll_off, poll_stopped, poll_goes}
use Rattle.replay_core.proofs.position.Position.poll.Goals as goal

pub returns-then-lines_at-bits-clause-goes : goal.returns-then-lines_at-bits-clause-goes
returns-then-lines_at-bits-clause-goes c =
    λ image s st a. poll_off image c.args.self.now c.args.run.now c.args.hart c.args.time c.args.bits s st a c.requires.next
    (λ e. c.if-lines_at-bits.true (c.lines_at.ensures.lines ∙ e))

pub returns-then-is_some-clause-goes : goal.returns-then-is_some-clause-goes
returns-then-is_some-clause-goes c = λ image s st a.
    let stop : is_some c.args.self.now.backing.devices.devices.stop ≡ true = search rules in
    poll_stopped image c.args.self.now c.args.run.now c.args.hart c.args.time c.args.bits s st a c.requires.next
    (sym c.lines_at.ensures.lines ∙ c.if-lines_at-bits.false) stop

pub poll-requires-clause-hart : goal.poll-requires-clause-hart
poll-requires-clause-hart c = let t = c.requires.tied in device_hart t.0 c.args.self.now c.args.run.now c.args.hart t.1.0 t.1.1 t.1.2

pub pass-requires : goal.pass-requires
pass-requires c = let t = c.requires.tied in place_there t.0 c.args.self.now c.args.run.now c.args.hart t.1.0 t.1.1 t.1.2

pub returns-clause-goes : goal.returns-clause-goes
returns-clause-goes c = λ image s st a.
    let stop : c.args.self.now.backing.devices.devices.stop ≡ None = search rules in
    poll_goes image c.args.self.now c.pass.new.self c.poll.new.self c.args.run.now c.poll.new.run c.args.hart c.args.time c.args.bits c.poll.result s st a
    c.requires.next
    (sym c.lines_at.ensures.lines ∙ c.if-lines_at-bits.false)
    (ap is_some stop) c.poll.ensures.time c.poll.ensures.bits c.poll.ensures.backing c.pass.ensures.log c.pass.ensures.backing c.pass.ensures.cursor
    c.poll.ensures.leads
