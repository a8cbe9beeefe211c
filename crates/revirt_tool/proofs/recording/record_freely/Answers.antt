use Rattle.std.proofs.Common.{ap₂}
use Rattle.crew_parts.specs.Boards.{world}
use Rattle.revirt_tool.specs.Tasks.{wish_by}
use Rattle.revirt_tool.proofs.Recordings.{as_asked, records_so, can_be_written, has_report}
use Rattle.revirt_tool.proofs.recording.record_freely.Goals as goal

pub keep_recorded-requires-clause-range : goal.keep_recorded-requires-clause-range
keep_recorded-requires-clause-range g c = λ _ _.
    let x = c.in-Ok-record_free in
    can_be_written (wish_by c.args.request.now) c.in-Ok.image _ _ x.recorded.log x.recorded.ended _ _
    (as_asked _ _ _ _ _ _ _ _ c.requires.free x.ensures)

pub keep_recorded-requires-clause-end : goal.keep_recorded-requires-clause-end
keep_recorded-requires-clause-end g c = λ _ _.
    let x = c.in-Ok-record_free in
    has_report (wish_by c.args.request.now) c.in-Ok.image _ _ x.recorded.log x.recorded.ended _ _
    (as_asked _ _ _ _ _ _ _ _ c.requires.free x.ensures)

pub returns-clause-records : goal.returns-clause-records
returns-clause-records g c =
    let x = c.in-Ok-record_free in
    records_so (wish_by c.args.request.now) _ _ _ _ _ _ c.in-Ok.image x.recorded.log x.recorded.ended _ _ c.keep_recorded.result.ending
    c.in-Ok.ensures.image c.keep_recorded.ensures.tells (as_asked _ _ _ _ _ _ _ _ c.requires.free x.ensures) c.keep_recorded.ensures.keeps
    (ap₂ (λ a b. world (g.C.Console.seen a) (g.K.Clock.seen b)) c.keep_recorded.ensures.console c.keep_recorded.ensures.clock)
