use Rattle.std.proofs.Common.{◌≡◌, ◌∙◌, Some, slice_get, slice_set, subst, sym, ap, arith}
use Rattle.std.specs.Prelude.{slice_index_or}
use Rattle.std.proofs.lemmas.Option.{slice_get-get_or}
use Rattle.replay_parts.proofs.Advancing.{parts_unmoved}
use Rattle.replay_core.specs.Turns.{AreParts, told}
use Rattle.replay_core.proofs.PartsAdvanced.{leg_moves, parts_turned}
use Rattle.replay_core.proofs.turn_tests.turn_of.Goals as goal

pub until_of-until-requires : goal.until_of-until-requires
until_of-until-requires c =
    c.requires.parts.each c.args.hart c.index_mut-run.result.now
    (slice_get-get_or c.args.runs.now.items c.args.hart c.index_mut-run.result.now c.requires.hart
    ∙ ap Some (ap (λ i. slice_index_or c.args.runs.now.items i c.index_mut-run.result.now) (sym c.from.ensures) ∙ sym c.index_mut-run.ensures.value))

pub advance-requires : goal.advance-requires
advance-requires c =
    let there : slice_get c.args.runs.now.items c.args.hart ≡ Some c.index_mut-run.result.now =
    slice_get-get_or c.args.runs.now.items c.args.hart c.index_mut-run.result.now c.requires.hart
    ∙ ap Some (ap (λ i. slice_index_or c.args.runs.now.items i c.index_mut-run.result.now) (sym c.from.ensures) ∙ sym c.index_mut-run.ensures.value) in
    let reached = c.harts.ensures.reached in
    let within = (parts_unmoved c.args.board.now reached.0 c.args.hart _ reached.1 (c.requires.parts.each c.args.hart _ there)).within in
    let until = c.until_of-until.ensures in
    omega (arith, within, until)

pub turn-requires : goal.turn-requires
turn-requires c =
    let there : slice_get c.args.runs.now.items c.args.hart ≡ Some c.index_mut-run.result.now =
    slice_get-get_or c.args.runs.now.items c.args.hart c.index_mut-run.result.now c.requires.hart
    ∙ ap Some (ap (λ i. slice_index_or c.args.runs.now.items i c.index_mut-run.result.now) (sym c.from.ensures) ∙ sym c.index_mut-run.ensures.value) in
    let reached = c.harts.ensures.reached in
    let until = c.until_of-until.ensures in
    leg_moves c.args.board.now reached.0 c.args.runs.now.items c.args.hart c.until_of-until.result
    c.index_mut-run.result.now c.advance.new.self c.advance.result reached.1 c.requires.parts there
    c.advance.ensures.kept c.advance.ensures.leg (omega (arith, until))

pub returns : goal.returns
returns c =
    let there : slice_get c.args.runs.now.items c.args.hart ≡ Some c.index_mut-run.result.now =
    slice_get-get_or c.args.runs.now.items c.args.hart c.index_mut-run.result.now c.requires.hart
    ∙ ap Some (ap (λ i. slice_index_or c.args.runs.now.items i c.index_mut-run.result.now) (sym c.from.ensures) ∙ sym c.index_mut-run.ensures.value) in
    let reached = c.harts.ensures.reached in
    let until = c.until_of-until.ensures in
    subst (λ k. AreParts c.turn.new.self (slice_set c.args.runs.now.items k c.turn.new.run)) (sym c.from.ensures)
    (parts_turned c.args.board.now reached.0 c.args.runs.now.items c.args.hart c.until_of-until.result
    c.index_mut-run.result.now c.advance.new.self c.advance.result reached.1 c.requires.parts there
    c.advance.ensures.kept c.advance.ensures.leg (omega (arith, until)) c.turn.new.self c.turn.new.run (told c.turn.result) c.turn.ensures.turned)
