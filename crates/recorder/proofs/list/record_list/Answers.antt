use Rattle.std.proofs.Common.{subst, sym, ap₂}
use Rattle.crew_parts.specs.Boards.{Plain, world}
use Rattle.recorder.specs.Manned.{HasGiven}
use Rattle.recorder.proofs.Listing.{list_recorded, matched, passed_on}
use Rattle.recorder.proofs.Manning.{given_none}
use Rattle.recorder.proofs.list.record_list.Goals as goal

pub returns-in_err-recording : goal.returns-in_err-recording
returns-in_err-recording g c =
    let before = world (g.C.Console.seen c.args.console) (g.K.Clock.seen c.args.clock) in
    let e = c.in_err-recording.ensures in
    passed_on _ c.from_residual.result (λ y same. subst (λ z. HasGiven before (world (g.C.Console.seen z.console) (g.K.Clock.seen z.clock))) (sym same)
    (subst (HasGiven before) (sym (ap₂ (λ x y. world (g.C.Console.seen x) (g.K.Clock.seen y)) e.console e.clock)) (given_none before)))
    c.from_residual.ensures.1

pub returns-in-Ok : goal.returns-in-Ok
returns-in-Ok g c =
    let before = world (g.C.Console.seen c.args.console) (g.K.Clock.seen c.args.clock) in
    let q = c.list.new.self in
    matched c.finish.result (λ r ends now.
    list_recorded c.args.image.now c.args.harts c.args.limit c.args.log_limit before (world (g.C.Console.seen r.console) (g.K.Clock.seen r.clock))
    c.args.list.now c.in_ok-recording.recording.board q.board q.runs.items q.orders r.log r.ended r.journal r.turns c.pages.ensures.whole
    c.requires.least c.requires.most c.requires.limit c.requires.log_least c.requires.log_most c.in_ok-recording.ensures.board
    c.in-Ok.ensures.taken ends now)
    (λ e now. subst (HasGiven before) (sym now)
    (subst (λ (z : Plain). HasGiven z.now q.board.now) c.in_ok-recording.ensures.board c.list.ensures.given)) c.finish.ensures.ended
    c.finish.ensures.world c.finish.ensures.refused

pub returns-in-Err : goal.returns-in-Err
returns-in-Err g c =
    let before = world (g.C.Console.seen c.args.console) (g.K.Clock.seen c.args.clock) in
    let q = c.list.new.self in
    subst (HasGiven before) (sym c.abandon.ensures)
    (subst (λ (z : Plain). HasGiven z.now q.board.now) c.in_ok-recording.ensures.board c.list.ensures.given)
