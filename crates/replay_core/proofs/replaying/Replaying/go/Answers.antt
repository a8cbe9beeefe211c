use Rattle.std.proofs.Common.{◌≡◌, Some, slice_get, slice_set, refl, ap, ◌∙◌, sym}
use Rattle.std.specs.Prelude.{slice_index_or}
use Rattle.std.proofs.lemmas.Option.{slice_get-get_or}
use Rattle.replay_core.proofs.OtherHarts.{set_same}
use Rattle.replay_core.proofs.StageAfterItem.{stage_at}
use Rattle.replay_core.proofs.replaying.Replaying.go.Goals as goal

pub go-requires : goal.go-requires
go-requires c =
    let x = c.requires.at in
    let there : slice_get c.args.self.now.runs.items c.args.hart ≡ Some c.index_mut.result.now =
    slice_get-get_or c.args.self.now.runs.items c.args.hart c.index_mut.result.now c.requires.hart
    ∙ ap Some (ap (λ i. slice_index_or c.args.self.now.runs.items i c.index_mut.result.now) (sym c.from.ensures) ∙ sym c.index_mut.ensures.value) in
    record { tied = (x.0, (x.1.0, x.1.1.stands, x.1.1.agree c.args.hart c.index_mut.result.now there)) }

pub returns-clause-answer : goal.returns-clause-answer
returns-clause-answer c = λ image s at.
    let there : slice_get c.args.self.now.runs.items c.args.hart ≡ Some c.index_mut.result.now =
    slice_get-get_or c.args.self.now.runs.items c.args.hart c.index_mut.result.now c.requires.hart
    ∙ ap Some (ap (λ i. slice_index_or c.args.self.now.runs.items i c.index_mut.result.now) (sym c.from.ensures) ∙ sym c.index_mut.ensures.value) in
    (c.go.ensures.goes image s at.stands (at.agree c.args.hart c.index_mut.result.now there)).answer_is

pub returns-clause-at : goal.returns-clause-at
returns-clause-at c = λ image s at.
    let there : slice_get c.args.self.now.runs.items c.args.hart ≡ Some c.index_mut.result.now =
    slice_get-get_or c.args.self.now.runs.items c.args.hart c.index_mut.result.now c.requires.hart
    ∙ ap Some (ap (λ i. slice_index_or c.args.self.now.runs.items i c.index_mut.result.now) (sym c.from.ensures) ∙ sym c.index_mut.ensures.value) in
    stage_at image c.args.self.now _ c.go.new.run c.index_mut.result.now c.args.hart s c.go.result at there
    (c.go.ensures.goes image s at.stands (at.agree c.args.hart c.index_mut.result.now there)) c.go.ensures.log
    (ap (λ i. slice_set c.args.self.now.runs.items i c.go.new.run) c.from.ensures) refl

pub returns-clause-still : goal.returns-clause-still
returns-clause-still c = λ is.
    let there : slice_get c.args.self.now.runs.items c.args.hart ≡ Some c.index_mut.result.now =
    slice_get-get_or c.args.self.now.runs.items c.args.hart c.index_mut.result.now c.requires.hart
    ∙ ap Some (ap (λ i. slice_index_or c.args.self.now.runs.items i c.index_mut.result.now) (sym c.from.ensures) ∙ sym c.index_mut.ensures.value) in
    let e = c.go.ensures.still is in
    let items : slice_set c.args.self.now.runs.items c.from.result c.go.new.run ≡ c.args.self.now.runs.items =
    ap (slice_set c.args.self.now.runs.items c.from.result) e.1 ∙ ap (λ i. slice_set c.args.self.now.runs.items i c.index_mut.result.now) c.from.ensures
    ∙ set_same c.args.self.now.runs.items c.args.hart c.index_mut.result.now there in
    (e.0, (items, refl))
