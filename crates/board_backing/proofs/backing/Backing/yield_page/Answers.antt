use Rattle.std.proofs.Common.{rules}
use Rattle.board_backing.proofs.Backs.{yielded_leads, yield_answers}
use Rattle.board_backing.proofs.backing.Backing.yield_page.Goals as goal

pub returns-clause-leads : goal.returns-clause-leads
returns-clause-leads c =
    yielded_leads c.args.self.now _ c.args.run.now _ c.args.page c.args.left _ (search rules) c.requires.store c.requires.page c.give_page.ensures.agrees

pub returns-clause-answer : goal.returns-clause-answer
returns-clause-answer c = yield_answers c.args.self.now c.args.run.now _ _ c.args.page c.args.left _ c.requires.store c.give_page.ensures.agrees
