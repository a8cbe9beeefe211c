use Rattle.std.proofs.Common.{None, slice_index_or, slice_set, subst, sym}
use Rattle.crew_core.specs.Orders.{told_of}
use Rattle.recorder.specs.Manned.{Advances, IsManned, row_moves, still}
use Rattle.recorder.proofs.Manning.{manned_row, may_go, order_there, run_there}
use Rattle.recorder.proofs.crewed.Recorder.advance.Goals as goal

pub advance-requires : goal.advance-requires
advance-requires g c =
    let s = c.args.self.now in
    let is = c.requires.manned in
    let r = c.index_mut.result.now in
    may_go s.board c.args.hart r (slice_index_or s.orders c.from-place.result None) c.harts.ensures.holds
    (is.each c.args.hart r
    (run_there s.board s.runs.items s.orders still c.args.hart c.from-place.result r is c.requires.hart c.from-place.ensures c.index_mut.ensures.value))
    (is.told c.args.hart (slice_index_or s.orders c.from-place.result None)
    (order_there s.board s.runs.items s.orders still c.args.hart c.from-place.result is c.requires.hart c.from-place.ensures) c.requires.hart)

pub returns-clause-manned : goal.returns-clause-manned
returns-clause-manned g c =
    let s = c.args.self.now in
    let is = c.requires.manned in
    let r = c.index_mut.result.now in
    let order = slice_index_or s.orders c.from-place.result None in
    subst (λ k. IsManned s.board (slice_set s.runs.items k c.advance.new.run) s.orders (row_moves s.board c.args.hart c.args.most))
    (sym c.from-place.ensures)
    (manned_row s.board s.runs.items s.orders c.args.hart c.args.most r c.advance.new.run order c.harts.ensures.holds c.requires.hart
    (run_there s.board s.runs.items s.orders still c.args.hart c.from-place.result r is c.requires.hart c.from-place.ensures c.index_mut.ensures.value)
    (order_there s.board s.runs.items s.orders still c.args.hart c.from-place.result is c.requires.hart c.from-place.ensures) is
    (subst (Advances r c.advance.new.run (told_of order)) c.from.ensures c.advance.ensures))
