use Rattle.turn_table.specs.Passes.{IsPassOf, IsIdle, IsSame}
use Rattle.free_run.proofs.taking.take_board.Given as goal

abbrev pub invariant-loop : goal.invariant-loop
invariant-loop g l = IsPassOf l.table l.pass × IsIdle l.pass × IsSame l.initial.pass l.pass
