use Rattle.std.proofs.Common.{slice_get, ap, ◌∙◌}
use Rattle.round_run.proofs.Going.{all_may_go, all_ready, all_stood}
use Rattle.round_run.proofs.rounds.Rounds.go_on.Goals as goal

pub legs-requires-clause-may : goal.legs-requires-clause-may
legs-requires-clause-may g c κs within =
    let s = c.args.self.now.recording in
    all_may_go s.board s.runs.items s.orders c.untils_of-untils.result c.harts.ensures.holds c.requires c.untils_of-untils.ensures

pub returns-clause-ready : goal.returns-clause-ready
returns-clause-ready g c =
    let s = c.args.self.now.recording in
    all_ready s.board s.runs.items c.legs.new.runs.items s.orders c.untils_of-untils.result c.harts.ensures.holds c.requires
    c.untils_of-untils.ensures c.in_ok-legs.ensures.gone

pub returns-clause-stood : goal.returns-clause-stood
returns-clause-stood g c =
    let s = c.args.self.now.recording in
    all_stood s.board s.runs.items s.orders c.counts_of-self.result c.harts.ensures.holds c.requires
    (λ h r at. c.counts_of-self.ensures h r (ap (λ runs. slice_get runs h) c.deref.ensures.value ∙ at))

pub returns-in_err-legs-clause-stood : goal.returns-in_err-legs-clause-stood
returns-in_err-legs-clause-stood g c =
    let s = c.args.self.now.recording in
    all_stood s.board s.runs.items s.orders c.counts_of-self.result c.harts.ensures.holds c.requires
    (λ h r at. c.counts_of-self.ensures h r (ap (λ runs. slice_get runs h) c.deref.ensures.value ∙ at))
