use Rattle.recorder.proofs.Listing.{cut_gives, cut_is_manned, list_taken}
use Rattle.recorder.proofs.Manning.{given_then}
use Rattle.recorder.proofs.crewed.Recorder.list.Goals as goal

pub rests-requires-after_bounds : goal.rests-requires-after_bounds
rests-requires-after_bounds g c κs within =
    cut_is_manned c.rows.new.self.board c.cut.new.self c.rows.new.self.runs.items c.rows.new.self.orders c.cut.ensures c.in_ok-rows.ensures.taken.manned

pub returns-clause-taken : goal.returns-clause-taken
returns-clause-taken g c =
    list_taken c.args.list.now c.args.self.now.board c.rows.new.self.board c.cut.new.self c.rests.new.self.board c.rests.new.self.runs.items
    c.rows.new.self.runs.items c.rests.new.self.orders c.rows.new.self.orders c.in_ok-rows.ensures.taken c.harts.ensures.holds c.cut.ensures
    c.in_ok-rests.ensures.taken

pub returns-in_err-rests-clause-given : goal.returns-in_err-rests-clause-given
returns-in_err-rests-clause-given g c =
    let takes = c.in_ok-rows.ensures.taken.takes in
    given_then c.args.self.now.board.now c.cut.new.self.now c.rests.new.self.board.now
    (given_then c.args.self.now.board.now c.rows.new.self.board.now c.cut.new.self.now (takes.given, takes.gives)
    (cut_gives c.rows.new.self.board c.cut.new.self c.cut.ensures)) c.rests.ensures.given

pub returns-clause-given : goal.returns-clause-given
returns-clause-given g c =
    let takes = c.in_ok-rows.ensures.taken.takes in
    given_then c.args.self.now.board.now c.cut.new.self.now c.rests.new.self.board.now
    (given_then c.args.self.now.board.now c.rows.new.self.board.now c.cut.new.self.now (takes.given, takes.gives)
    (cut_gives c.rows.new.self.board c.cut.new.self c.cut.ensures)) c.rests.ensures.given
