use Rattle.turn_table.specs.Passes.{hart_of, part_of}
use Rattle.replay_core.specs.Turns.{told}
use Rattle.free_replay.proofs.OneTurn.{gave_stuck, has_led, one_changes, taken_by}
use Rattle.free_replay.proofs.legs.leg_and_turn.Goals as goal

pub turn-pace-requires-clause-moved : goal.turn-pace-requires-clause-moved
turn-pace-requires-clause-moved g c =
    (taken_by c.take_board-board.result c.over.ensures.reached.0 (hart_of c.args.pass.now) (part_of c.args.pass.now) c.args.run.now
    c.advance.new.self c.args.until
    c.advance.result c.over.ensures.reached.1 c.take_board-board.ensures.part c.requires.ready.on_record c.requires.until c.advance.ensures.kept
    c.advance.ensures.leg).moved

pub turn-pace-requires-clause-inside : goal.turn-pace-requires-clause-inside
turn-pace-requires-clause-inside g c =
    (taken_by c.take_board-board.result c.over.ensures.reached.0 (hart_of c.args.pass.now) (part_of c.args.pass.now) c.args.run.now
    c.advance.new.self c.args.until
    c.advance.result c.over.ensures.reached.1 c.take_board-board.ensures.part c.requires.ready.on_record c.requires.until c.advance.ensures.kept
    c.advance.ensures.leg).there

pub give-requires-clause-parts : goal.give-requires-clause-parts
give-requires-clause-parts g c =
    let b = c.take_board-board.result in
    let P = c.args.pass.now in
    let taken =
    taken_by b c.over.ensures.reached.0 (hart_of P) (part_of P) c.args.run.now c.advance.new.self c.args.until c.advance.result
    c.over.ensures.reached.1 c.take_board-board.ensures.part c.requires.ready.on_record c.requires.until c.advance.ensures.kept c.advance.ensures.leg in
    one_changes P c.take_board-board.new.pass c.take_board-board.new.pass b c.turn-pace.new.self c.args.run.now c.advance.new.self
    c.turn-pace.new.run c.args.until
    c.advance.result (told c.turn-pace.result.0) taken c.turn-pace.ensures.turned c.take_board-board.ensures.same c.take_board-board.ensures.holds

pub returns-clause-led : goal.returns-clause-led
returns-clause-led g c =
    let b = c.take_board-board.result in
    let P = c.args.pass.now in
    let taken =
    taken_by b c.over.ensures.reached.0 (hart_of P) (part_of P) c.args.run.now c.advance.new.self c.args.until c.advance.result
    c.over.ensures.reached.1 c.take_board-board.ensures.part c.requires.ready.on_record c.requires.until c.advance.ensures.kept c.advance.ensures.leg in
    has_led c.args.table.now P c.take_board-board.new.pass c.give.new.pass b c.turn-pace.new.self c.args.run.now c.advance.new.self c.turn-pace.new.run
    c.args.until c.advance.result c.turn-pace.result.0 taken c.turn-pace.ensures.turned c.advance.ensures.kept c.take_board-board.ensures.same
    c.take_board-board.ensures.holds c.take_board-board.ensures.part c.give.ensures.table c.give.ensures.idle c.give.ensures.hart c.give.ensures.part
    c.give.ensures.turn

pub returns-clause-over : goal.returns-clause-over
returns-clause-over g c told_so =
    gave_stuck c.args.pass.now c.take_board-board.new.pass c.give.new.pass c.take_board-board.result c.turn-pace.new.self c.take_board-board.ensures.same
    c.take_board-board.ensures.holds c.give.ensures.turn (c.over-over.ensures.over told_so)
