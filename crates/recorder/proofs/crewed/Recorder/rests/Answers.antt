use Rattle.recorder.proofs.Listing.{no_rows, rest_more}
use Rattle.recorder.proofs.Manning.{given_then}
use Rattle.recorder.proofs.crewed.Recorder.rests.Goals as goal

pub loop-hart-init : goal.loop-hart-init
loop-hart-init g c = no_rows c.args.self.now.board c.args.self.now.runs.items c.args.self.now.orders c.requires

pub loop-hart-preserved : goal.loop-hart-preserved
loop-hart-preserved g c =
    rest_more c.args.self.now.board c.loop-hart.self.board c.row.new.self.board c.loop-hart.hart c.row.new.self.runs.items
    c.loop-hart.self.runs.items c.row.new.self.orders c.loop-hart.self.orders c.loop-hart.invariant c.in_ok-row.ensures.taken

pub returns-in_err-row-clause-given : goal.returns-in_err-row-clause-given
returns-in_err-row-clause-given g c =
    let takes = c.loop-hart.invariant.takes in
    given_then c.args.self.now.board.now c.loop-hart.self.board.now c.row.new.self.board.now (takes.given, takes.gives) c.row.ensures.given
