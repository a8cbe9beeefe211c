use Rattle.std.proofs.Common.{◌∙◌, Some, ap}
use Rattle.crew_parts.specs.Boards.{until_by}
use Rattle.crew_core.specs.Orders.{told}
use Rattle.crew_core.proofs.Hands.{hand_had, hand_moved}
use Rattle.crew_core.proofs.tests.hand.Goals as goal

pub turn-order-requires-clause-run : goal.turn-order-requires-clause-run
turn-order-requires-clause-run g c = λ lives.
    (hand_moved c.args.board.now c.prepare.new.self c.args.hart c.args.run.now c.advance.new.self c.args.until c.aim-target.result c.advance.result
    c.in-Ok.ensures.room c.harts-2.ensures.holds c.requires.hart c.requires.part c.requires.until c.aim-target.ensures.most c.advance.ensures.kept
    c.advance.ensures.leg).0

pub returns : goal.returns
returns g c =
    hand_had c.args.board.now c.prepare.new.self c.turn-order.new.self c.args.hart c.advance.new.self c.turn-order.new.run (told c.turn-order.result)
    c.reach.result
    c.in-Ok.ensures.room
    (hand_moved c.args.board.now c.prepare.new.self c.args.hart c.args.run.now c.advance.new.self c.args.until c.aim-target.result c.advance.result
    c.in-Ok.ensures.room c.harts-2.ensures.holds c.requires.hart c.requires.part c.requires.until c.aim-target.ensures.most c.advance.ensures.kept
    c.advance.ensures.leg).1
    c.turn-order.ensures.turn c.harts-3.ensures.holds (c.reach.ensures ∙ ap (λ n. until_by n (Some (told c.turn-order.result))) c.count-2.ensures)
