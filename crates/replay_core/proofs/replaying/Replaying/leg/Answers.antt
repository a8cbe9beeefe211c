use Rattle.std.proofs.Common.{◌≡◌, Some, slice_get, slice_set, refl, ap, ◌∙◌, sym, subst}
use Rattle.std.specs.Prelude.{slice_index_or}
use Rattle.std.specs.Vec.{with_item}
use Rattle.std.proofs.lemmas.Option.{slice_get-get_or}
use Rattle.replay_core.specs.Telling.{IsQuiet}
use Rattle.replay_core.proofs.LegsAsItems.{leg_or_same}
use Rattle.replay_core.proofs.NotesKept.{leg_noted}
use Rattle.replay_core.proofs.replaying.Replaying.leg.Goals as goal

pub run_on-requires : goal.run_on-requires
run_on-requires c =
    let x = c.requires.at in
    let there : slice_get c.args.self.now.runs.items c.args.hart ≡ Some c.index_mut-run.result.now =
    slice_get-get_or c.args.self.now.runs.items c.args.hart c.index_mut-run.result.now c.requires.hart
    ∙ ap Some (ap (λ i. slice_index_or c.args.self.now.runs.items i c.index_mut-run.result.now) (sym c.from.ensures) ∙ sym c.index_mut-run.ensures.value) in
    (x.0, (x.1.0, x.1.1.stands, x.1.1.agree c.args.hart c.index_mut-run.result.now there))

pub returns-clause-on : goal.returns-clause-on
returns-clause-on c =
    let there : slice_get c.args.self.now.runs.items c.args.hart ≡ Some c.index_mut-run.result.now =
    slice_get-get_or c.args.self.now.runs.items c.args.hart c.index_mut-run.result.now c.requires.hart
    ∙ ap Some (ap (λ i. slice_index_or c.args.self.now.runs.items i c.index_mut-run.result.now) (sym c.from.ensures) ∙ sym c.index_mut-run.ensures.value) in
    (leg_or_same c.run_on.result c.args.self.now
    (record { board = c.args.self.now.board; runs = with_item c.args.self.now.runs c.from.result c.run_on.new.run; ends = c.args.self.now.ends })
    c.args.hart c.quiet_until-most.result c.index_mut-run.result.now c.run_on.new.run there c.run_on.ensures.made c.run_on.ensures.still refl
    (ap (λ i. slice_set c.args.self.now.runs.items i c.run_on.new.run) c.from.ensures) refl c.requires.at).0

pub returns-clause-gone : goal.returns-clause-gone
returns-clause-gone c =
    let there : slice_get c.args.self.now.runs.items c.args.hart ≡ Some c.index_mut-run.result.now =
    slice_get-get_or c.args.self.now.runs.items c.args.hart c.index_mut-run.result.now c.requires.hart
    ∙ ap Some (ap (λ i. slice_index_or c.args.self.now.runs.items i c.index_mut-run.result.now) (sym c.from.ensures) ∙ sym c.index_mut-run.ensures.value) in
    (leg_or_same c.run_on.result c.args.self.now
    (record { board = c.args.self.now.board; runs = with_item c.args.self.now.runs c.from.result c.run_on.new.run; ends = c.args.self.now.ends })
    c.args.hart c.quiet_until-most.result c.index_mut-run.result.now c.run_on.new.run there c.run_on.ensures.made c.run_on.ensures.still refl
    (ap (λ i. slice_set c.args.self.now.runs.items i c.run_on.new.run) c.from.ensures) refl c.requires.at).1

pub returns-clause-noted : goal.returns-clause-noted
returns-clause-noted c =
    let there : slice_get c.args.self.now.runs.items c.args.hart ≡ Some c.index_mut-run.result.now =
    slice_get-get_or c.args.self.now.runs.items c.args.hart c.index_mut-run.result.now c.requires.hart
    ∙ ap Some (ap (λ i. slice_index_or c.args.self.now.runs.items i c.index_mut-run.result.now) (sym c.from.ensures) ∙ sym c.index_mut-run.ensures.value) in
    leg_noted c.run_on.result c.args.self.now
    (record { board = c.args.self.now.board; runs = with_item c.args.self.now.runs c.from.result c.run_on.new.run; ends = c.args.self.now.ends })
    c.args.hart c.quiet_until-most.result c.index_mut-run.result.now c.run_on.new.run c.args.notes.now there c.run_on.ensures.made c.run_on.ensures.still refl
    (ap (λ i. slice_set c.args.self.now.runs.items i c.run_on.new.run) c.from.ensures) refl
    (subst (λ k. IsQuiet c.args.notes.now c.args.hart k c.quiet_until-most.result) c.count.ensures c.quiet_until-most.ensures)
