use Rattle.std.proofs.Common.{rules, ◌≡◌, ◌∙◌, sym, true, false, None, ap, arith}
use Rattle.std.specs.Prelude.{is_some}
use Rattle.replay_core.proofs.MovesMade.{place_there, count_low}
use Rattle.replay_core.proofs.DeviceEntries.{device_hart, access_off, access_stopped, access_goes, room_left}
use Rattle.replay_core.proofs.position.Position.access.Goals as goal

pub returns-then-not-suits-clause-goes : goal.returns-then-not-suits-clause-goes
returns-then-not-suits-clause-goes c = λ image s st a.
    let off : c.suits.result ≡ false = search rules in
    access_off image c.args.self.now c.args.run.now c.args.hart c.args.access c.args.input s st a c.requires.next c.requires.ahead (sym c.suits.ensures ∙ off)

pub returns-then-is_some-clause-goes : goal.returns-then-is_some-clause-goes
returns-then-is_some-clause-goes c = λ image s st a.
    let on : c.suits.result ≡ true = search rules in
    let stop : is_some c.args.self.now.backing.devices.devices.stop ≡ true = search rules in
    access_stopped image c.args.self.now c.args.run.now c.args.hart c.args.access c.args.input s st a c.requires.next c.requires.ahead
    (sym c.suits.ensures ∙ on) stop

pub replay_touch-requires-clause-hart : goal.replay_touch-requires-clause-hart
replay_touch-requires-clause-hart c = let t = c.requires.tied in device_hart t.0 c.args.self.now c.args.run.now c.args.hart t.1.0 t.1.1 t.1.2

pub replay_touch-requires-clause-count : goal.replay_touch-requires-clause-count
replay_touch-requires-clause-count c = let t = c.requires.tied in let low = count_low t.0 c.args.self.now c.args.run.now c.args.hart t.1.0 t.1.1 t.1.2 in
    omega (arith, low)

pub replay_touch-requires-clause-room : goal.replay_touch-requires-clause-room
replay_touch-requires-clause-room c = let t = c.requires.tied in
    room_left t.0 c.args.self.now c.args.run.now c.args.hart c.args.input c.args.access.store _ t.1.0 t.1.1 t.1.2 c.requires.next

pub pass-requires : goal.pass-requires
pass-requires c = let t = c.requires.tied in place_there t.0 c.args.self.now c.args.run.now c.args.hart t.1.0 t.1.1 t.1.2

pub returns-clause-goes : goal.returns-clause-goes
returns-clause-goes c = λ image s st a.
    let on : c.suits.result ≡ true = search rules in
    let stop : c.args.self.now.backing.devices.devices.stop ≡ None = search rules in
    access_goes image c.args.self.now c.pass.new.self c.replay_touch.new.self c.args.run.now c.replay_touch.new.run c.args.hart c.args.access c.args.input
    c.replay_touch.result s st a c.requires.next c.requires.ahead
    (sym c.suits.ensures ∙ on)
    (ap is_some stop) c.replay_touch.ensures.exact c.replay_touch.ensures.again c.replay_touch.ensures.harts c.replay_touch.ensures.room
    c.pass.ensures.log c.pass.ensures.backing c.pass.ensures.cursor
    c.replay_touch.ensures.leads
