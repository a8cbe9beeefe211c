use Rattle.std.proofs.Common.{◌≡◌, ◌∙◌, Some, slice_get, sym, ap}
use Rattle.std.specs.Prelude.{slice_index_or}
use Rattle.std.proofs.lemmas.Option.{slice_get-get_or}
use Rattle.replay_core.proofs.OutcomesTold.{told_at}
use Rattle.replay_core.proofs.replaying.Replaying.diverged.Goals as goal

pub returns : goal.returns
returns c = λ image s at.
    let there : slice_get c.args.self.runs.items c.args.hart ≡ Some c.index.result.now =
    slice_get-get_or c.args.self.runs.items c.args.hart c.index.result.now c.requires.hart
    ∙ ap Some (ap (λ i. slice_index_or c.args.self.runs.items i c.index.result.now) (sym c.from.ensures) ∙ sym c.index.ensures) in
    told_at image c.args.self s c.args.hart c.args.why c.count-count.result c.into_end.result c.index.result.now at there c.count-count.ensures
    (c.into_end.ensures image s at)
