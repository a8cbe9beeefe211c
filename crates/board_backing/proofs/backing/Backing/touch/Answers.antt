use Rattle.std.proofs.Common.{refl}
use Rattle.board_backing.proofs.Touches.{touch_leads}
use Rattle.board_backing.proofs.backing.Backing.touch.Goals as goal

pub returns-in-Ok-clause-leads : goal.returns-in-Ok-clause-leads
returns-in-Ok-clause-leads g c =
    touch_leads c.args.self.now _ c.args.run.now _ c.args.hart c.in-Ok.touched.loaded c.args.access c.in-Ok.touched.input c.requires.running
    c.requires.ahead refl c.in-Ok.ensures.devices c.take_answer.ensures.agrees

pub returns-in-Ok-clause-devices : goal.returns-in-Ok-clause-devices
returns-in-Ok-clause-devices g c = (c.in-Ok.touched.loaded, c.in-Ok.ensures.devices)
