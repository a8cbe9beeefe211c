use Rattle.std.proofs.Common.{◌∙◌, ◌+◌, ◌-◌, ◌<◌, ap, ap₂, sym, subst, arith, length, List, Some}
use Rattle.std.proofs.lemmas.List.{length-set}
use Rattle.crew_core.specs.declared.crew.Crew.{Crew}
use Rattle.crew_core.specs.declared.seat.Seat.{Seat}
use Rattle.crew_core.specs.declared.turned.Noted.{Noted}
use Rattle.crew_core.specs.Seats.{seat_of, HasRoomFor}
use Rattle.crew_core.specs.Standing.{terms_of}
use Rattle.crew_core.specs.Turns.{noted_by}
use Rattle.crew_core.proofs.Sequence.{tie}
use Rattle.crew_core.specs.Does.{bytes_sent}
use Rattle.crew_core.proofs.SentBytes.{counts_behind, sends_behind}
use Rattle.crew_core.proofs.WholeTurns.{moved_on, moves_few, counted_room, last_there, told_entries, comes_to}
use Rattle.crew_core.proofs.crew.Crew.turn.Goals as goal

pub overflow_sub-moves : goal.overflow_sub-moves
overflow_sub-moves g c =
    let t = c.requires.led in
    let moved = moved_on c.args.self.now c.args.run.now c.args.hart t.1 t.0 t.2 t.3 c.requires.hart in
    let now = c.count.ensures in
    let before = c.count-2.ensures in
    omega (arith, moved, now, before)

pub steps-order-requires-clause-tied : goal.steps-order-requires-clause-tied
steps-order-requires-clause-tied g c = λ κs l.
    let t = c.requires.led in
    let m = c.commit.ensures.commits t.0 t.1 t.2 t.3 in
    tie _ _ _ m.to m.stands m.agrees

pub steps-order-requires-clause-room : goal.steps-order-requires-clause-room
steps-order-requires-clause-room g c = λ κs l.
    let harts = c.requires.led.2.harts in
    subst (λ (z : Crew). HasRoomFor 12 z.seats c.args.hart) (sym c.commit.ensures.frame)
    (counted_room c.args.self.now.seats c.args.hart 12 c.args.run.now.count (omega (arith, c.requires.hart, harts)) c.requires.room)

pub tell-requires : goal.tell-requires
tell-requires g c =
    let t = c.requires.led in
    (last_there c.args.self.now c.commit.new.self c.steps-order.new.self c.args.run.now c.steps-order.new.run c.args.hart t.1 t.0 c.steps-order.result
    (g.C.Console.seen c.args.console.now) (g.C.Console.seen c.steps-order.new.console) (g.K.Clock.seen c.args.clock.now)
    (g.K.Clock.seen c.steps-order.new.clock)
    (c.commit.ensures.commits t.0 t.1 t.2 t.3) c.steps-order.ensures.does c.steps-order.ensures.harts (ap (λ (z : Crew). z.harts) c.commit.ensures.frame)
    c.requires.hart).0

pub noted-after-requires-clause-hart : goal.noted-after-requires-clause-hart
noted-after-requires-clause-hart g c =
    let t = c.requires.led in
    let l =
    (last_there c.args.self.now c.commit.new.self c.steps-order.new.self c.args.run.now c.steps-order.new.run c.args.hart t.1 t.0 c.steps-order.result
    (g.C.Console.seen c.args.console.now) (g.C.Console.seen c.steps-order.new.console) (g.K.Clock.seen c.args.clock.now)
    (g.K.Clock.seen c.steps-order.new.clock)
    (c.commit.ensures.commits t.0 t.1 t.2 t.3) c.steps-order.ensures.does c.steps-order.ensures.harts (ap (λ (z : Crew). z.harts) c.commit.ensures.frame)
    c.requires.hart).0 in
    subst (λ (zs : List Seat). c.args.hart < length zs) (sym c.tell.ensures)
    (let z = length-set c.steps-order.new.self.seats c.args.hart
    (record (seat_of c.steps-order.new.self.seats c.args.hart) { order = Some c.steps-order.result }) in omega (arith, z, l))

pub noted-after-requires-clause-wants : goal.noted-after-requires-clause-wants
noted-after-requires-clause-wants g c =
    let t = c.requires.led in
    (last_there c.args.self.now c.commit.new.self c.steps-order.new.self c.args.run.now c.steps-order.new.run c.args.hart t.1 t.0 c.steps-order.result
    (g.C.Console.seen c.args.console.now) (g.C.Console.seen c.steps-order.new.console) (g.K.Clock.seen c.args.clock.now)
    (g.K.Clock.seen c.steps-order.new.clock)
    (c.commit.ensures.commits t.0 t.1 t.2 t.3) c.steps-order.ensures.does c.steps-order.ensures.harts (ap (λ (z : Crew). z.harts) c.commit.ensures.frame)
    c.requires.hart).1

pub returns-clause-does : goal.returns-clause-does
returns-clause-does g c =
    let e = c.steps-order.ensures.does in (
      e.0,
      e.1,
      e.2,
      e.3,
      λ b n left st led no_more outside.
          let m = c.commit.ensures.commits b n st led in
          let d = e.4 m.to left m.stands m.agrees no_more (m.supply ∙ outside) in
          let moved = moved_on c.args.self.now c.args.run.now c.args.hart n b st led c.requires.hart in
          let few = (moves_few c.args.self.now c.args.run.now c.args.hart n b st led c.requires.hart c.requires.within).0 in
          let now = c.count.ensures in
          let before = c.count-2.ensures in
          let steps = c.steps-order.ensures.harts in
          let first = ap (λ (z : Crew). z.harts) c.commit.ensures.frame in
          let entries_before = ap (λ (z : Noted). z.entries) c.noted-before.ensures.value in
          let entries_after = ap (λ (z : Noted). z.entries) c.noted-after.ensures.value in
          let more = c.saturating_sub.ensures in
          comes_to c.args.self.now c.commit.new.self c.steps-order.new.self _ c.args.run.now c.steps-order.new.run c.args.hart n _ b left st
          (omega (arith, steps, first, c.requires.hart)) m (ap terms_of c.commit.ensures.frame) d
          (ap (λ (s : List Seat). record c.steps-order.new.self { seats = s }) c.tell.ensures)
          (omega (arith, moved, now, before, few)) (omega (arith, moved, now, before, more, entries_before, entries_after))
          (c.differs.ensures ∙ ap₂ (λ x y. noted_by x y ((c.count.result - c.count-2.result) + c.saturating_sub.result)) c.noted-before.ensures.value
          c.noted-after.ensures.value),
    )

pub returns-clause-faults : goal.returns-clause-faults
returns-clause-faults g c =
    counts_behind c.args.self.now.closed c.commit.new.self.closed c.steps-order.new.self.closed _ _ (ap (λ (z : Crew). z.closed) c.commit.ensures.frame)
    c.steps-order.ensures.faults

pub returns-clause-sent : goal.returns-clause-sent
returns-clause-sent g c =
    sends_behind c.args.self.now c.commit.new.self c.steps-order.new.self (g.C.Console.seen c.args.console.now) (g.C.Console.seen c.steps-order.new.console)
    (ap bytes_sent c.commit.ensures.frame) c.steps-order.ensures.sent

pub returns-clause-few : goal.returns-clause-few
returns-clause-few g c =
    let t = c.requires.led in
    let last =
    (last_there c.args.self.now c.commit.new.self c.steps-order.new.self c.args.run.now c.steps-order.new.run c.args.hart t.1 t.0 c.steps-order.result
    (g.C.Console.seen c.args.console.now) (g.C.Console.seen c.steps-order.new.console) (g.K.Clock.seen c.args.clock.now)
    (g.K.Clock.seen c.steps-order.new.clock)
    (c.commit.ensures.commits t.0 t.1 t.2 t.3) c.steps-order.ensures.does c.steps-order.ensures.harts (ap (λ (z : Crew). z.harts) c.commit.ensures.frame)
    c.requires.hart) in
    let count = moved_on c.args.self.now c.args.run.now c.args.hart t.1 t.0 t.2 t.3 c.requires.hart in
    let moves = (moves_few c.args.self.now c.args.run.now c.args.hart t.1 t.0 t.2 t.3 c.requires.hart c.requires.within).0 in
    let entries = last.2 in
    let now = c.count.ensures in
    let before = c.count-2.ensures in
    let after = ap (λ (z : Noted). z.entries) c.noted-after.ensures.value in
    let told = ap (λ (zs : List Seat). length (seat_of zs c.args.hart).lane.entries) c.tell.ensures
    ∙ told_entries c.steps-order.new.self.seats c.args.hart c.steps-order.result last.0 in
    let more = c.saturating_sub.ensures in
    omega (arith, count, moves, entries, now, before, after, told, more)
