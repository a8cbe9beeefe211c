use Rattle.crew_parts.specs.Boards.{world}
use Rattle.recorder.proofs.Manning.{manned_start}
use Rattle.recorder.proofs.crewed.Recorder.start.Goals as goal

pub returns-in-Ok-clause-manned : goal.returns-in-Ok-clause-manned
returns-in-Ok-clause-manned g c =
    manned_start c.in-Ok.begun.0 c.args.image.now c.args.harts c.args.limit c.args.log_limit 8
    (world (g.C.Console.seen c.args.console) (g.K.Clock.seen c.args.clock)) c.in-Ok.begun.1.items c.in-Ok.ensures.board c.in-Ok.ensures.holds
    c.in-Ok.ensures.parts c.requires.most
