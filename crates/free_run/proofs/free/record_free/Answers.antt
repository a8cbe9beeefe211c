use Rattle.std.proofs.Common.{subst, sym, ap, ap₂, ◌∙◌}
use Rattle.crew_parts.specs.Boards.{Plain, world}
use Rattle.recorder.specs.Manned.{HasGiven}
use Rattle.recorder.proofs.Manning.{given_none}
use Rattle.free_run.proofs.Freed.{free_given, free_recorded, matched_whole}
use Rattle.free_run.proofs.free.record_free.Goals as goal

pub returns-in-Ok : goal.returns-in-Ok
returns-in-Ok g c =
    let before = world (g.C.Console.seen c.args.console) (g.K.Clock.seen c.args.clock) in
    let p = c.of.result in
    let q = c.run_free-board.result.0 in
    let runs = c.run_free-board.result.1.items in
    let is = c.of.ensures ∙ c.in-Ok.ensures.board in
    matched_whole q.abandoned c.finish.result c.finish.ensures.abandoned (λ going r ends now.
    free_recorded c.args.image.now c.args.harts c.args.limit c.args.log_limit before (world (g.C.Console.seen r.console) (g.K.Clock.seen r.clock)) p q runs
    r.log r.ended r.journal r.turns c.pages.ensures.whole c.requires.least c.requires.most c.requires.limit c.requires.log_least c.requires.log_most is
    c.run_free-board.ensures c.harts.ensures.holds going ends now)
    (λ e now. free_given before (world (g.C.Console.seen e.console) (g.K.Clock.seen e.clock)) p q runs (ap (λ (z : Plain). z.first) is)
    c.run_free-board.ensures now)
    c.finish.ensures.ended c.finish.ensures.world c.finish.ensures.refused

pub returns-in-Err : goal.returns-in-Err
returns-in-Err g c =
    let before = world (g.C.Console.seen c.args.console) (g.K.Clock.seen c.args.clock) in
    let e = c.in-Err.ensures in
    subst (HasGiven before) (sym (ap₂ (λ x y. world (g.C.Console.seen x) (g.K.Clock.seen y)) e.console e.clock)) (given_none before)
