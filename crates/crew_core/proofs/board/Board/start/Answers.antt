use Rattle.std.proofs.Common.{ap₂, subst, sym}
use Rattle.crew_parts.specs.Boards.{Plain, world}
use Rattle.crew_parts.specs.Parts.{AreParts}
use Rattle.crew_core.proofs.BoardStarts.{first_parts, start_keeps, start_shows}
use Rattle.crew_core.proofs.board.Board.start.Goals as goal

pub invariant_of-board : goal.invariant_of-board
invariant_of-board g c =
    start_keeps c.in-Ok.begun.0 c.new.result.items c.start.result c.start-in-Ok.result c.args.image.now c.of.result.value c.args.harts c.args.limit
    c.args.log_limit
    (world (g.C.Console.seen c.args.console) (g.K.Clock.seen c.args.clock))
    (world (g.C.Console.seen c.of-in-Ok.result.value) (g.K.Clock.seen c.of-in-Ok-2.result.value)) c.pages.ensures.whole c.of.ensures
    (ap₂ (λ x y. world (g.C.Console.seen x) (g.K.Clock.seen y)) c.of-in-Ok.ensures c.of-in-Ok-2.ensures) c.in-Ok.ensures.terms c.in-Ok.ensures.stands
    c.start.ensures c.start-in-Ok.ensures
    c.requires.limit c.requires.least c.requires.most c.new.ensures.items

pub returns-in-Ok-clause-board : goal.returns-in-Ok-clause-board
returns-in-Ok-clause-board g c =
    start_shows c.in-Ok.begun.0 c.start.result.rows c.start-in-Ok.result.rows c.args.image.now c.of.result.value c.args.harts c.args.limit c.args.log_limit
    (world (g.C.Console.seen c.args.console) (g.K.Clock.seen c.args.clock))
    (world (g.C.Console.seen c.of-in-Ok.result.value) (g.K.Clock.seen c.of-in-Ok-2.result.value)) c.of.ensures
    (ap₂ (λ x y. world (g.C.Console.seen x) (g.K.Clock.seen y)) c.of-in-Ok.ensures c.of-in-Ok-2.ensures) c.in-Ok.ensures.terms c.in-Ok.ensures.stands
    c.start.ensures c.start-in-Ok.ensures

pub returns-in-Ok-clause-parts : goal.returns-in-Ok-clause-parts
returns-in-Ok-clause-parts g c =
    subst (λ (z : Plain). AreParts z c.in-Ok.begun.1.items) (sym (start_shows c.in-Ok.begun.0 c.start.result.rows c.start-in-Ok.result.rows c.args.image.now
    c.of.result.value c.args.harts c.args.limit c.args.log_limit
    (world (g.C.Console.seen c.args.console) (g.K.Clock.seen c.args.clock))
    (world (g.C.Console.seen c.of-in-Ok.result.value) (g.K.Clock.seen c.of-in-Ok-2.result.value)) c.of.ensures
    (ap₂ (λ x y. world (g.C.Console.seen x) (g.K.Clock.seen y)) c.of-in-Ok.ensures c.of-in-Ok-2.ensures) c.in-Ok.ensures.terms c.in-Ok.ensures.stands
    c.start.ensures c.start-in-Ok.ensures))
    (first_parts c.args.image.now c.args.harts c.args.limit c.args.log_limit (world (g.C.Console.seen c.args.console) (g.K.Clock.seen c.args.clock))
    c.in-Ok.begun.1.items c.pages.ensures.whole c.in-Ok.ensures.runs)

pub returns-in-Ok-clause-holds : goal.returns-in-Ok-clause-holds
returns-in-Ok-clause-holds g c =
    (start_keeps c.in-Ok.begun.0 c.new.result.items c.start.result c.start-in-Ok.result c.args.image.now c.of.result.value c.args.harts c.args.limit
    c.args.log_limit
    (world (g.C.Console.seen c.args.console) (g.K.Clock.seen c.args.clock))
    (world (g.C.Console.seen c.of-in-Ok.result.value) (g.K.Clock.seen c.of-in-Ok-2.result.value)) c.pages.ensures.whole c.of.ensures
    (ap₂ (λ x y. world (g.C.Console.seen x) (g.K.Clock.seen y)) c.of-in-Ok.ensures c.of-in-Ok-2.ensures) c.in-Ok.ensures.terms c.in-Ok.ensures.stands
    c.start.ensures c.start-in-Ok.ensures
    c.requires.limit c.requires.least c.requires.most c.new.ensures.items).board
