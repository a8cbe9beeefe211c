use Rattle.std.proofs.Common.{◌∙◌, ap, sym}
use Rattle.device_board.specs.State.{with_time}
use Rattle.board_backing.proofs.Touches.{poll_leads}
use Rattle.board_backing.proofs.backing.Backing.poll.Goals as goal

pub returns-clause-leads : goal.returns-clause-leads
returns-clause-leads c =
    poll_leads c.args.self.now c.poll-time.new.self c.args.run.now _ c.args.hart c.args.now c.poll-time.result c.lines-bits.result c.requires.running
    (c.poll-time.ensures.devices ∙ ap (λ t. with_time t c.args.self.now.devices.devices) (sym c.poll-time.ensures.answer)) c.poll-time.ensures.answer
    c.lines-bits.ensures.lines c.set_lines.ensures.agrees
