use Rattle.std.proofs.Common.{◌<◌, get_or, subst, sym, take}
use Rattle.std.proofs.lemmas.List.{take_more}
use Rattle.recorder.specs.Listed.{TakesRows}
use Rattle.recorder.proofs.Listing.{no_rows, row_inside, row_more}
use Rattle.recorder.proofs.Manning.{given_then}
use Rattle.recorder.proofs.crewed.Recorder.rows.Goals as goal

pub loop-hart-init : goal.loop-hart-init
loop-hart-init g c = no_rows c.args.self.now.board c.args.self.now.runs.items c.args.self.now.orders c.requires.manned

pub row-requires-clause-hart : goal.row-requires-clause-hart
row-requires-clause-hart g c κs within =
    subst (λ n. (get_or c.args.list.now c.loop-hart.hart-index (0, 0)).0 < n) (sym c.loop-hart.invariant.takes.same.harts)
    (row_inside c.args.self.now.board.harts c.args.list.now c.loop-hart.hart-index (0, 0) c.requires.list c.loop-hart-test.true)

pub loop-hart-preserved : goal.loop-hart-preserved
loop-hart-preserved g c =
    let row = get_or c.args.list.now c.loop-hart.hart-index (0, 0) in
    subst (λ list. TakesRows list c.args.self.now.board c.row.new.self.board c.row.new.self.runs.items c.row.new.self.orders)
    (sym (take_more c.args.list.now c.loop-hart.hart-index (0, 0) c.loop-hart-test.true))
    (row_more c.args.self.now.board c.loop-hart.self.board c.row.new.self.board (take c.loop-hart.hart-index c.args.list.now) row.0 row.1
    c.row.new.self.runs.items c.loop-hart.self.runs.items c.row.new.self.orders c.loop-hart.self.orders c.loop-hart.invariant c.in_ok-row.ensures.taken)

pub returns-in_err-row-clause-given : goal.returns-in_err-row-clause-given
returns-in_err-row-clause-given g c =
    let takes = c.loop-hart.invariant.takes in
    given_then c.args.self.now.board.now c.loop-hart.self.board.now c.row.new.self.board.now (takes.given, takes.gives) c.row.ensures.given
