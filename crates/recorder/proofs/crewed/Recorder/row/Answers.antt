use Rattle.recorder.specs.Manned.{row_moves}
use Rattle.recorder.proofs.Listing.{row_had}
use Rattle.recorder.proofs.crewed.Recorder.row.Goals as goal

pub returns-clause-taken : goal.returns-clause-taken
returns-clause-taken g c =
    row_had c.args.self.now.board c.advance.new.self.board c.turn.new.self.board c.args.hart c.args.most c.turn.new.self.runs.items
    c.turn.new.self.orders c.advance.ensures.board
    (c.in_ok-turn.ensures.turn (row_moves c.args.self.now.board c.args.hart c.args.most) c.advance.ensures.manned)
