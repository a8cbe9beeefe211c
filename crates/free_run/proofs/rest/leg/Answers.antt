use Rattle.crew_parts.specs.Parts.{number_of}
use Rattle.free_run.proofs.Turning.{goes_by, led_on}
use Rattle.free_run.proofs.rest.leg.Goals as goal

pub turn-requires-after_bounds : goal.turn-requires-after_bounds
turn-requires-after_bounds g c κs within =
    (led_on c.args.board.now c.args.until c.args.run.now c.advance.new.self c.advance.result c.over.ensures.holds c.requires.part c.requires.least
    c.requires.most c.advance.ensures.kept c.advance.ensures.leg).0

pub returns-clause-goes : goal.returns-clause-goes
returns-clause-goes g c =
    goes_by c.args.board.now c.turn.new.self (number_of c.args.run.now) c.advance.new.self c.turn.new.run _
    (led_on c.args.board.now c.args.until c.args.run.now c.advance.new.self c.advance.result c.over.ensures.holds c.requires.part c.requires.least
    c.requires.most c.advance.ensures.kept c.advance.ensures.leg).1 c.in_ok-turn.ensures.turn
