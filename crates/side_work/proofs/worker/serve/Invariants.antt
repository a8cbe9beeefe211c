use Rattle.std.specs.Arc.{arc_value}
use Rattle.side_work.specs.Places.{IsServed}
use Rattle.side_work.proofs.worker.serve.Given as goal

abbrev pub invariant-loop : goal.invariant-loop
invariant-loop g l = IsServed (arc_value l.place).table l.pass
