use Rattle.std.proofs.Common.{sym, ◌∙◌}
use Rattle.revirt_tool.proofs.Samples.{sampled_so}
use Rattle.revirt_tool.proofs.sampling.recorded.Goals as goal

pub returns-then-can_tell-2 : goal.returns-then-can_tell-2
returns-then-can_tell-2 g c =
    let x = c.in-Ok.field-0 in
    sampled_so c.args.image.now c.start.result c.start-2.result x.console x.clock x.log x.ended x.journal x.turns c.start.ensures c.start-2.ensures
    (sym c.can_tell.ensures ∙ c.if-can_tell.true) (sym c.can_tell-then-can_tell.ensures ∙ c.if-can_tell-2.true)
    c.in-Ok.ensures
