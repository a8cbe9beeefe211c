use Rattle.crew_parts.specs.Parts.{number_of}
use Rattle.crew_core.specs.Orders.{told}
use Rattle.recorder.proofs.Manning.{given_same, room_moved, room_turn}
use Rattle.recorder.proofs.crewed.take_turn.Goals as goal

pub turn-requires-clause-run : goal.turn-requires-clause-run
turn-requires-clause-run g c κs within = room_moved c.args.board.now c.prepare.new.self c.args.run.now c.in_ok-prepare.ensures.room c.requires

pub returns-clause-turn : goal.returns-clause-turn
returns-clause-turn g c =
    room_turn c.args.board.now c.prepare.new.self c.turn.new.self (number_of c.args.run.now) c.args.run.now c.turn.new.run (told c.turn.result)
    c.in_ok-prepare.ensures.room c.turn.ensures.turn

pub returns-in_err-prepare-clause-given : goal.returns-in_err-prepare-clause-given
returns-in_err-prepare-clause-given g c = given_same c.args.board.now c.prepare.new.self c.in_err-prepare.ensures.refused
