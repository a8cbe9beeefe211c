use Rattle.std.proofs.Common.{◌≤◌, ◌<◌, length, false, subst, sym, arith}
use Rattle.std.specs.Prelude.{IsTrue}
use Rattle.crew_parts.specs.Boards.{Plain, world}
use Rattle.crew_parts.specs.Parts.{IsPartMoved, number_of}
use Rattle.crew_parts.specs.Turns.{HasTurn}
use Rattle.crew_core.specs.Kept.{plain_of}
use Rattle.crew_core.specs.Orders.{told}
use Rattle.crew_core.specs.Seats.{HasRoomFor, reach, seat_of}
use Rattle.crew_core.proofs.BoardTurns.{hart_inside, reaches, turn_done}
use Rattle.crew_core.proofs.board.Board.turn.Goals as goal

pub number_of-hart-requires : goal.number_of-hart-requires
number_of-hart-requires g c =
    let k = c.self.invariant in
    let moved = subst (λ (z : Plain). IsPartMoved z c.args.run.now) (sym c.self.view_is) c.requires.run in
    let l = hart_inside c.self.inside.crew _ c.args.run.now (number_of c.args.run.now) moved.0 k.stands moved.1.led in
    let few = k.stands.few in
    omega (arith, l, few)

pub turn-turned-requires-clause-hart : goal.turn-turned-requires-clause-hart
turn-turned-requires-clause-hart g c = λ κs lives.
    let k = c.self.invariant in
    let moved = subst (λ (z : Plain). IsPartMoved z c.args.run.now) (sym c.self.view_is) c.requires.run in
    subst (λ h. h < c.self.inside.crew.harts) (sym c.number_of-hart.ensures)
    (hart_inside c.self.inside.crew _ c.args.run.now (number_of c.args.run.now) moved.0 k.stands moved.1.led)

pub turn-turned-requires-clause-within : goal.turn-turned-requires-clause-within
turn-turned-requires-clause-within g c = λ κs lives.
    let k = c.self.invariant in
    let moved = subst (λ (z : Plain). IsPartMoved z c.args.run.now) (sym c.self.view_is) c.requires.run in
    let l = hart_inside c.self.inside.crew _ c.args.run.now (number_of c.args.run.now) moved.0 k.stands moved.1.led in
    let size = k.stands.harts in
    let there : number_of c.args.run.now < length c.self.inside.crew.seats = omega (arith, l, size) in
    subst (λ h. c.args.run.now.count ≤ reach (seat_of c.self.inside.crew.seats h)) (sym c.number_of-hart.ensures)
    (subst (λ n. c.args.run.now.count ≤ n)
    (reaches c.self.inside.crew c.self.inside.journal.rows c.self.inside.turns.rows c.self.inside.image.value
    (world (g.C.Console.seen c.self.inside.first_console.value) (g.K.Clock.seen c.self.inside.first_clock.value))
    (world (g.C.Console.seen c.self.inside.console) (g.K.Clock.seen c.self.inside.clock)) c.self.inside.abandoned c.self.inside.prepared
    (number_of c.args.run.now) there) moved.1.within)

pub turn-turned-requires-clause-room : goal.turn-turned-requires-clause-room
turn-turned-requires-clause-room g c = λ κs lives.
    let k = c.self.invariant in
    let moved = subst (λ (z : Plain). IsPartMoved z c.args.run.now) (sym c.self.view_is) c.requires.run in
    let l = hart_inside c.self.inside.crew _ c.args.run.now (number_of c.args.run.now) moved.0 k.stands moved.1.led in
    let size = k.stands.harts in
    let there : number_of c.args.run.now < length c.self.inside.crew.seats = omega (arith, l, size) in
    let prepared = subst (λ (z : Plain). IsTrue z.prepared) (sym c.self.view_is) c.requires.prepared in
    subst (HasRoomFor 12 c.self.inside.crew.seats) (sym c.number_of-hart.ensures) ((k.ready prepared).lanes (number_of c.args.run.now) there)

pub invariant_of-self : goal.invariant_of-self
invariant_of-self g c =
    let k = c.self.invariant in
    let moved = subst (λ (z : Plain). IsPartMoved z c.args.run.now) (sym c.self.view_is) c.requires.run in
    (turn_done c.self.inside.crew c.turn-turned.new.self c.self.inside.spare.items c.take_two-first.new.spare.items c.self.inside.journal c.self.inside.turns
    c.note.new.self c.note-2.new.self _ _ _ _ c.self.inside.abandoned c.self.inside.prepared c.args.run.now c.turn-turned.new.run c.number_of-hart.result
    moved.0
    c.turn-turned.result k moved.1 c.number_of-hart.ensures c.turn-turned.ensures.harts c.turn-turned.ensures.tells_answers c.turn-turned.ensures.tells_taken
    c.turn-turned.ensures.tells_times c.turn-turned.ensures.faults c.turn-turned.ensures.sent c.turn-turned.ensures.does c.note.ensures c.note-2.ensures
    c.take_two-first.ensures.rest).0

pub returns-clause-turn : goal.returns-clause-turn
returns-clause-turn g c =
    let k = c.self.invariant in
    let moved = subst (λ (z : Plain). IsPartMoved z c.args.run.now) (sym c.self.view_is) c.requires.run in
    subst (λ (z : Plain). HasTurn z (plain_of c.turn-turned.new.self c.note.new.self.rows c.note-2.new.self.rows
    c.self.inside.image.value (world (g.C.Console.seen c.self.inside.first_console.value) (g.K.Clock.seen c.self.inside.first_clock.value))
    (world (g.C.Console.seen c.turn-turned.new.console) (g.K.Clock.seen c.turn-turned.new.clock)) c.self.inside.abandoned false)
    (number_of c.args.run.now) c.args.run.now c.turn-turned.new.run (told c.turn-turned.result.order)) c.self.view_is
    (turn_done c.self.inside.crew c.turn-turned.new.self c.self.inside.spare.items c.take_two-first.new.spare.items c.self.inside.journal c.self.inside.turns
    c.note.new.self c.note-2.new.self _ _ _ _ c.self.inside.abandoned c.self.inside.prepared c.args.run.now c.turn-turned.new.run c.number_of-hart.result
    moved.0
    c.turn-turned.result k moved.1 c.number_of-hart.ensures c.turn-turned.ensures.harts c.turn-turned.ensures.tells_answers c.turn-turned.ensures.tells_taken
    c.turn-turned.ensures.tells_times c.turn-turned.ensures.faults c.turn-turned.ensures.sent c.turn-turned.ensures.does c.note.ensures c.note-2.ensures
    c.take_two-first.ensures.rest).1

pub returns-clause-number : goal.returns-clause-number
returns-clause-number g c =
    let k = c.self.invariant in
    let moved = subst (λ (z : Plain). IsPartMoved z c.args.run.now) (sym c.self.view_is) c.requires.run in
    (turn_done c.self.inside.crew c.turn-turned.new.self c.self.inside.spare.items c.take_two-first.new.spare.items c.self.inside.journal c.self.inside.turns
    c.note.new.self c.note-2.new.self _ _ _ _ c.self.inside.abandoned c.self.inside.prepared c.args.run.now c.turn-turned.new.run c.number_of-hart.result
    moved.0
    c.turn-turned.result k moved.1 c.number_of-hart.ensures c.turn-turned.ensures.harts c.turn-turned.ensures.tells_answers c.turn-turned.ensures.tells_taken
    c.turn-turned.ensures.tells_times c.turn-turned.ensures.faults c.turn-turned.ensures.sent c.turn-turned.ensures.does c.note.ensures c.note-2.ensures
    c.take_two-first.ensures.rest).2
