use Rattle.std.proofs.Common.{subst}
use Rattle.crew_core.specs.Orders.{told}
use Rattle.crew_parts.specs.Parts.{number_of}
use Rattle.crew_parts.specs.Turns.{HasTurn}
use Rattle.free_run.proofs.Turning.{goes_further, may_lead, unmoved}
use Rattle.free_run.proofs.rest.turns.Goals as goal

pub turn-requires-after_bounds : goal.turn-requires-after_bounds
turn-requires-after_bounds g c κs within = unmoved c.args.board.now c.args.run.now c.over.ensures.holds c.requires

pub leg-requires-clause-part : goal.leg-requires-clause-part
leg-requires-clause-part g c κs within =
    let p = c.args.board.now in
    let r = c.args.run.now in
    let m = c.turn.new.self in
    let after = c.turn.new.run in
    let had = subst (λ o. HasTurn p m (number_of r) r after (told o)) c.in-Go.is c.in_ok-order.ensures.turn in
    (may_lead p m r after c.in-Go.until c.over.ensures.holds c.over-2.ensures.holds c.requires had).part

pub leg-requires-clause-least : goal.leg-requires-clause-least
leg-requires-clause-least g c κs within =
    let p = c.args.board.now in
    let r = c.args.run.now in
    let m = c.turn.new.self in
    let after = c.turn.new.run in
    let had = subst (λ o. HasTurn p m (number_of r) r after (told o)) c.in-Go.is c.in_ok-order.ensures.turn in
    (may_lead p m r after c.in-Go.until c.over.ensures.holds c.over-2.ensures.holds c.requires had).least

pub leg-requires-clause-most : goal.leg-requires-clause-most
leg-requires-clause-most g c κs within =
    let p = c.args.board.now in
    let r = c.args.run.now in
    let m = c.turn.new.self in
    let after = c.turn.new.run in
    let had = subst (λ o. HasTurn p m (number_of r) r after (told o)) c.in-Go.is c.in_ok-order.ensures.turn in
    (may_lead p m r after c.in-Go.until c.over.ensures.holds c.over-2.ensures.holds c.requires had).most

pub returns-clause-goes : goal.returns-clause-goes
returns-clause-goes g c =
    let p = c.args.board.now in
    let r = c.args.run.now in
    let m = c.turn.new.self in
    let after = c.turn.new.run in
    let had = subst (λ o. HasTurn p m (number_of r) r after (told o)) c.in-Go.is c.in_ok-order.ensures.turn in
    goes_further c.leg.result p m c.leg.new.board r after c.leg.new.run c.in-Go.until c.over.ensures.holds c.over-2.ensures.holds c.requires had
    c.leg.ensures.goes
