use Rattle.std.proofs.Common.{Some, min, ◌+◌, ◌-◌, ◌≤◌, ap, ap₂, ◌∙◌, subst}
use Rattle.crew_parts.specs.Parts.{until_by}
use Rattle.crew_core.specs.Orders.{told_of}
use Rattle.recorder.proofs.Manning.{goes_on, within_leg}
use Rattle.recorder.proofs.crewed.advance.Goals as goal

pub returns-in-Some-Go : goal.returns-in-Some-Go
returns-in-Some-Go c =
    let go = rw c.in-Some-Go.is at c.in-Some-Go.field-0-is in
    let is = ap told_of (c.in-Some-Go.is ∙ ap Some go) in
    goes_on c.args.run.now c.advance.new.self c.args.order c.in-Some-Go.until c.args.most _ c.advance.result is
    (ap₂ (λ n k. n + k) c.count-count.ensures (c.min.ensures ∙ ap (λ n. min c.args.most (c.in-Some-Go.until - n)) c.count-count.ensures)
    ∙ within_leg c.in-Some-Go.until c.args.most c.args.run.now.count (subst (λ o. c.args.run.now.count ≤ until_by c.args.run.now.count o) is c.requires))
    c.advance.ensures.kept c.advance.ensures.leg
