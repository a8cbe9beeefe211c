use Rattle.std.proofs.Common.{Some, slice_set, subst, sym}
use Rattle.crew_parts.specs.Turns.{HasTurn}
use Rattle.crew_core.specs.Orders.{told}
use Rattle.recorder.specs.Manned.{HasTurnOf}
use Rattle.recorder.proofs.Manning.{manned_turn, moved_of, run_there}
use Rattle.recorder.proofs.crewed.Recorder.turn.Goals as goal

pub take_turn-requires-after_bounds : goal.take_turn-requires-after_bounds
take_turn-requires-after_bounds g c κs within =
    let s = c.args.self.now in
    let moves = c.requires.manned.0 in
    let is = c.requires.manned.1 in
    let r = c.index_mut.result.now in
    (moved_of s.board c.args.hart (moves c.args.hart) r c.harts.ensures.holds (is.each c.args.hart r
    (run_there s.board s.runs.items s.orders moves c.args.hart c.from-place.result r is c.requires.hart c.from-place.ensures c.index_mut.ensures.value))).0

pub returns-clause-turn : goal.returns-clause-turn
returns-clause-turn g c = λ moves is.
    let s = c.args.self.now in
    let r = c.index_mut.result.now in
    let there =
    run_there s.board s.runs.items s.orders moves c.args.hart c.from-place.result r is c.requires.hart c.from-place.ensures c.index_mut.ensures.value in
    let number = (moved_of s.board c.args.hart (moves c.args.hart) r c.harts.ensures.holds (is.each c.args.hart r there)).1 in
    subst (λ k. HasTurnOf s.board c.take_turn.new.board c.args.hart moves (slice_set s.runs.items k c.take_turn.new.run)
    (slice_set s.orders k (Some c.in_ok-order.order))) (sym c.from-place.ensures)
    (manned_turn s.board c.take_turn.new.board s.runs.items s.orders moves c.args.hart r c.take_turn.new.run c.in_ok-order.order c.harts.ensures.holds
    c.harts-2.ensures.holds c.requires.hart there is
    (subst (λ k. HasTurn s.board c.take_turn.new.board k r c.take_turn.new.run (told c.in_ok-order.order)) number c.in_ok-order.ensures.turn))
