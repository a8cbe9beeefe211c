use Rattle.std.proofs.Common.{ap, ◌∙◌}
use Rattle.outside.specs.Numbered.{one_more}
use Rattle.revirt_tool.proofs.Samples.{asked_once_more, by_hundreds, hundreds}
use Rattle.revirt_tool.proofs.sampling.ByHundredsClock.now.Goals as goal

pub returns-clause-answered : goal.returns-clause-answered
returns-clause-answered c =
    let asked = c.args.self.now in
    let more = c.saturating_add-self-inside.result in
    let is = c.self.invariant ∙ ap hundreds c.self.view_is in
    let counted = c.saturating_add-self-inside.ensures ∙ ap one_more c.self.view_is in
    by_hundreds c.self.inside.clock c.now.new.self asked more c.now.result is
    (asked_once_more c.self.inside.clock c.now.new.self asked more is c.now.ensures.counted counted) c.now.ensures.answered
