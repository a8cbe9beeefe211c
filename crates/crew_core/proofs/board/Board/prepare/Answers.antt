use Rattle.std.proofs.Common.{◌≡◌, true, refl, ap, ◌∙◌}
use Rattle.crew_parts.specs.Boards.{Plain, world}
use Rattle.crew_core.proofs.Sets.{on_err, roomier_keeps, roomier_shows}
use Rattle.crew_core.proofs.board.Board.prepare.Goals as goal

pub invariant_of-self : goal.invariant_of-self
invariant_of-self g c =
    roomier_keeps c.self.inside.crew c.prepare.new.self c.self.inside.spare.items c.self.inside.spare.items c.self.inside.journal c.self.inside.turns
    c.self.inside.journal c.self.inside.turns _ _ _ c.self.inside.abandoned
    c.self.inside.prepared c.self.inside.prepared c.self.invariant c.prepare.ensures.roomier refl refl c.self.invariant.empty
    (λ yes. absurd (let y : c.self.inside.prepared ≡ true = yes in let bad : ⊥ = cc in bad))

pub invariant_of-self-in_err-fill : goal.invariant_of-self-in_err-fill
invariant_of-self-in_err-fill g c =
    roomier_keeps c.self.inside.crew c.prepare.new.self c.self.inside.spare.items c.fill.new.spare.items c.self.inside.journal c.self.inside.turns
    c.self.inside.journal c.self.inside.turns _ _ _ c.self.inside.abandoned
    c.self.inside.prepared c.self.inside.prepared c.self.invariant c.prepare.ensures.roomier refl refl c.fill.ensures.spare
    (λ yes. absurd (let y : c.self.inside.prepared ≡ true = yes in let bad : ⊥ = cc in bad))

pub invariant_of-self-in_err-reserve : goal.invariant_of-self-in_err-reserve
invariant_of-self-in_err-reserve g c =
    roomier_keeps c.self.inside.crew c.prepare.new.self c.self.inside.spare.items c.fill.new.spare.items c.self.inside.journal c.self.inside.turns
    c.reserve.new.self c.self.inside.turns _ _ _ c.self.inside.abandoned
    c.self.inside.prepared c.self.inside.prepared c.self.invariant c.prepare.ensures.roomier c.reserve.ensures.rows refl c.fill.ensures.spare
    (λ yes. absurd (let y : c.self.inside.prepared ≡ true = yes in let bad : ⊥ = cc in bad))

pub invariant_of-self-in_err-reserve-2 : goal.invariant_of-self-in_err-reserve-2
invariant_of-self-in_err-reserve-2 g c =
    roomier_keeps c.self.inside.crew c.prepare.new.self c.self.inside.spare.items c.fill.new.spare.items c.self.inside.journal c.self.inside.turns
    c.reserve.new.self c.reserve-2.new.self _ _ _ c.self.inside.abandoned
    c.self.inside.prepared c.self.inside.prepared c.self.invariant c.prepare.ensures.roomier c.reserve.ensures.rows c.reserve-2.ensures.rows
    c.fill.ensures.spare
    (λ yes. absurd (let y : c.self.inside.prepared ≡ true = yes in let bad : ⊥ = cc in bad))

pub invariant_of-self-2 : goal.invariant_of-self-2
invariant_of-self-2 g c =
    roomier_keeps c.self.inside.crew c.prepare.new.self c.self.inside.spare.items c.fill.new.spare.items c.self.inside.journal c.self.inside.turns
    c.reserve.new.self c.reserve-2.new.self _ _ _ c.self.inside.abandoned c.self.inside.prepared true c.self.invariant c.prepare.ensures.roomier
    c.reserve.ensures.rows c.reserve-2.ensures.rows c.fill.ensures.spare (λ yes. record {
      lanes = c.in_ok-prepare.ensures.lanes;
      waits = c.in_ok-fill.ensures.two;
      bytes = c.in_ok-prepare.ensures.bytes;
      journal_room = c.in_ok-reserve.ensures.room;
      turns_room = c.in_ok-reserve-2.ensures.room;
    })

pub returns-in_err-prepare-clause-refused : goal.returns-in_err-prepare-clause-refused
returns-in_err-prepare-clause-refused g c =
    on_err c.from_residual.result _ (roomier_shows c.self.inside.crew c.prepare.new.self c.self.inside.journal.rows c.self.inside.turns.rows
    c.self.inside.journal.rows c.self.inside.turns.rows c.self.inside.image.value
    (world (g.C.Console.seen c.self.inside.first_console.value) (g.K.Clock.seen c.self.inside.first_clock.value))
    (world (g.C.Console.seen c.self.inside.console) (g.K.Clock.seen c.self.inside.clock)) c.self.inside.abandoned c.self.inside.prepared
    c.prepare.ensures.roomier
    refl refl ∙ c.self.view_is)

pub returns-in_err-fill-clause-refused : goal.returns-in_err-fill-clause-refused
returns-in_err-fill-clause-refused g c =
    on_err c.from_residual-in_err-fill.result _ (roomier_shows c.self.inside.crew c.prepare.new.self c.self.inside.journal.rows c.self.inside.turns.rows
    c.self.inside.journal.rows c.self.inside.turns.rows c.self.inside.image.value
    (world (g.C.Console.seen c.self.inside.first_console.value) (g.K.Clock.seen c.self.inside.first_clock.value))
    (world (g.C.Console.seen c.self.inside.console) (g.K.Clock.seen c.self.inside.clock)) c.self.inside.abandoned c.self.inside.prepared
    c.prepare.ensures.roomier
    refl refl ∙ c.self.view_is)

pub returns-in_err-reserve-clause-refused : goal.returns-in_err-reserve-clause-refused
returns-in_err-reserve-clause-refused g c =
    on_err c.from_residual-in_err-reserve.result _ (roomier_shows c.self.inside.crew c.prepare.new.self c.self.inside.journal.rows c.self.inside.turns.rows
    c.reserve.new.self.rows c.self.inside.turns.rows c.self.inside.image.value
    (world (g.C.Console.seen c.self.inside.first_console.value) (g.K.Clock.seen c.self.inside.first_clock.value))
    (world (g.C.Console.seen c.self.inside.console) (g.K.Clock.seen c.self.inside.clock)) c.self.inside.abandoned c.self.inside.prepared
    c.prepare.ensures.roomier
    c.reserve.ensures.rows refl ∙ c.self.view_is)

pub returns-in_err-reserve-2-clause-refused : goal.returns-in_err-reserve-2-clause-refused
returns-in_err-reserve-2-clause-refused g c =
    on_err c.from_residual-in_err-reserve-2.result _ (roomier_shows c.self.inside.crew c.prepare.new.self c.self.inside.journal.rows c.self.inside.turns.rows
    c.reserve.new.self.rows c.reserve-2.new.self.rows c.self.inside.image.value
    (world (g.C.Console.seen c.self.inside.first_console.value) (g.K.Clock.seen c.self.inside.first_clock.value))
    (world (g.C.Console.seen c.self.inside.console) (g.K.Clock.seen c.self.inside.clock)) c.self.inside.abandoned c.self.inside.prepared
    c.prepare.ensures.roomier
    c.reserve.ensures.rows c.reserve-2.ensures.rows ∙ c.self.view_is)

pub returns-clause-room : goal.returns-clause-room
returns-clause-room g c =
    roomier_shows c.self.inside.crew c.prepare.new.self c.self.inside.journal.rows c.self.inside.turns.rows c.reserve.new.self.rows c.reserve-2.new.self.rows
    c.self.inside.image.value
    (world (g.C.Console.seen c.self.inside.first_console.value) (g.K.Clock.seen c.self.inside.first_clock.value))
    (world (g.C.Console.seen c.self.inside.console) (g.K.Clock.seen c.self.inside.clock)) c.self.inside.abandoned true c.prepare.ensures.roomier
    c.reserve.ensures.rows c.reserve-2.ensures.rows
    ∙ ap (λ (z : Plain). record z { prepared = true }) c.self.view_is
