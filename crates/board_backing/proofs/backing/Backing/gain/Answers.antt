use Rattle.std.proofs.Common.{rules}
use Rattle.board_backing.proofs.Backs.{gained_leads}
use Rattle.board_backing.proofs.backing.Backing.gain.Goals as goal

pub returns-clause-leads : goal.returns-clause-leads
returns-clause-leads c =
    gained_leads c.args.self.now _ c.args.run.now _ c.args.page c.args.mode (search rules) c.requires.store c.requires.page c.take_page.ensures.agrees
