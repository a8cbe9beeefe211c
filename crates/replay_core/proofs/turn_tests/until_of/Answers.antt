use Rattle.std.proofs.Common.{◌≡◌, ◌∙◌, slice_index, subst, sym, ap, ap₂, arith}
use Rattle.std.proofs.lemmas.Option.{get_or_from_slice_get, slice_get_within}
use Rattle.order_rules.specs.Cursor.{Cursor, first_left}
use Rattle.flat_machine.specs.State.{FlatState}
use Rattle.replay_model.specs.State.{Replay}
use Rattle.run_model.specs.Agreement.{Agrees}
use Rattle.replay_parts.specs.Boards.{Plain, state_of}
use Rattle.replay_parts.specs.Parts.{until_by, until_in}
use Rattle.replay_parts.proofs.Within.{states_are}
use Rattle.replay_core.specs.Turns.{plain_of}
use Rattle.replay_core.proofs.StateAfterItem.{reached}
use Rattle.replay_core.proofs.TurnsTaken.{places_size}
use Rattle.replay_core.proofs.turn_tests.until_of.Goals as goal

pub until-requires : goal.until-requires
until-requires c =
    let kept = c.board.invariant in
    let from = states_are (plain_of c.board.inside.board c.board.inside.image.value c.board.inside.counts.items) kept.at kept.reaches in
    let agrees = subst (λ (p : Plain). Agrees c.args.run.now c.args.hart (state_of p)) (sym c.board.view_is) c.requires in
    let l =
    slice_get_within kept.at.flat.harts c.args.hart c.args.run.now.hart (subst (Agrees c.args.run.now c.args.hart) from agrees).hart in
    let harts = (reached c.board.inside.image.value c.board.inside.board kept.at kept.stands).going.good.sound.sized.harts_size in
    let size = places_size c.board.inside.board c.board.inside.ends c.board.inside.image.value c.board.inside.counts.items kept in
    omega (arith, l, harts, size)

pub returns : goal.returns
returns c =
    let kept = c.board.invariant in
    let from = states_are (plain_of c.board.inside.board c.board.inside.image.value c.board.inside.counts.items) kept.at kept.reaches in
    let agrees = subst (λ (p : Plain). Agrees c.args.run.now c.args.hart (state_of p)) (sym c.board.view_is) c.requires in
    let own : slice_index kept.at.flat.counts c.args.hart ≡ c.args.run.now.count =
    get_or_from_slice_get kept.at.flat.counts c.args.hart c.args.run.now.count 0 (subst (Agrees c.args.run.now c.args.hart) from agrees).count in
    c.until.ensures
    ∙ ap₂ (λ n (k : Cursor). until_by n (first_left c.board.inside.board.log k c.args.hart)) (c.count.ensures ∙ sym own) kept.stands.cursor
    ∙ ap (λ (s : Replay FlatState). until_in c.board.inside.board.log s c.args.hart) (sym from)
    ∙ ap (λ (p : Plain). until_in p.log (state_of p) c.args.hart) c.board.view_is
