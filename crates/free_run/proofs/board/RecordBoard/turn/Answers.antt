use Rattle.crew_parts.specs.Parts.{number_of}
use Rattle.crew_core.specs.Orders.{told}
use Rattle.free_run.proofs.ByTurns.{kept_by_turn, ready_for, turn_had}
use Rattle.free_run.proofs.board.RecordBoard.turn.Goals as goal

pub turn-order-requires-clause-run : goal.turn-order-requires-clause-run
turn-order-requires-clause-run g c κs within =
    ready_for c.self.inside.board c.args.self.now c.prepare.new.self c.args.run.now c.self.view_is c.in-Ok.ensures.room c.requires

pub invariant_of-self : goal.invariant_of-self
invariant_of-self g c =
    kept_by_turn c.self.inside.board c.args.self.now c.prepare.new.self c.turn-order.new.self c.self.inside.harts c.args.run.now c.turn-order.new.run
    (told c.turn-order.result) c.self.view_is c.in-Ok.ensures.room c.self.invariant.0 c.self.invariant.1 c.harts.ensures.holds c.harts-in-Ok.ensures.holds
    c.requires c.turn-order.ensures.turn

pub returns-in-Ok-clause-turn : goal.returns-in-Ok-clause-turn
returns-in-Ok-clause-turn g c =
    turn_had c.self.inside.board c.args.self.now c.prepare.new.self c.turn-order.new.self (number_of c.args.run.now) c.args.run.now c.turn-order.new.run
    (told c.turn-order.result) c.self.view_is c.in-Ok.ensures.room c.turn-order.ensures.turn
