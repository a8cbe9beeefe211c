use Rattle.std.proofs.Common.{take}
use Rattle.recorder.specs.Listed.{TakesRows}
use Rattle.recorder.proofs.crewed.Recorder.rows.Given as goal

abbrev pub invariant-loop-hart : goal.invariant-loop-hart
invariant-loop-hart g l = TakesRows (take l.hart-index l.list) l.initial.self.board l.self.board l.self.runs.items l.self.orders
