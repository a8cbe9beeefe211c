use Rattle.std.specs.Prelude.{OnOk}
use Rattle.std.proofs.Common.{subst, sym, ap₂}
use Rattle.crew_parts.specs.Boards.{Plain, world}
use Rattle.recorder.specs.Manned.{HasGiven}
use Rattle.round_run.specs.Rounds.{TakesAll}
use Rattle.recorder.proofs.Listing.{matched, passed_on}
use Rattle.recorder.proofs.Manning.{given_none}
use Rattle.round_run.proofs.Rounding.{rounds_recorded}
use Rattle.round_run.proofs.rounds.record_rounds.Goals as goal

pub returns-in_err-recording : goal.returns-in_err-recording
returns-in_err-recording g c =
    let before = world (g.C.Console.seen c.args.console) (g.K.Clock.seen c.args.clock) in
    let e = c.in_err-recording.ensures in
    passed_on _ c.from_residual.result (λ y same. subst (λ z. HasGiven before (world (g.C.Console.seen z.console) (g.K.Clock.seen z.clock))) (sym same)
    (subst (HasGiven before) (sym (ap₂ (λ x y. world (g.C.Console.seen x) (g.K.Clock.seen y)) e.console e.clock)) (given_none before)))
    c.from_residual.ensures.1

pub returns-in-Ok : goal.returns-in-Ok
returns-in-Ok g c =
    let before = world (g.C.Console.seen c.args.console) (g.K.Clock.seen c.args.clock) in
    let q = c.beside-rounds.result.0.recording in
    let taken =
    subst (λ m. OnOk m (TakesAll c.in_ok-recording.recording.board q.board q.runs.items q.orders)) c.in-Ok.is c.beside-rounds.ensures.1
    in
    matched c.finish.result (λ r ends now.
    rounds_recorded c.args.image.now c.args.harts c.args.limit c.args.log_limit before (world (g.C.Console.seen r.console) (g.K.Clock.seen r.clock))
    c.in_ok-recording.recording.board q.board q.runs.items q.orders r.log r.ended r.journal r.turns c.pages.ensures.whole c.requires.least
    c.requires.most c.requires.limit c.requires.log_least c.requires.log_most c.in_ok-recording.ensures.board taken ends now)
    (λ e now. subst (HasGiven before) (sym now)
    (subst (λ (z : Plain). HasGiven z.now q.board.now) c.in_ok-recording.ensures.board c.beside-rounds.ensures.0)) c.finish.ensures.ended
    c.finish.ensures.world c.finish.ensures.refused

pub returns-in-Err : goal.returns-in-Err
returns-in-Err g c =
    let before = world (g.C.Console.seen c.args.console) (g.K.Clock.seen c.args.clock) in
    let q = c.beside-rounds.result.0.recording in
    subst (HasGiven before) (sym c.abandon.ensures)
    (subst (λ (z : Plain). HasGiven z.now q.board.now) c.in_ok-recording.ensures.board c.beside-rounds.ensures.0)
