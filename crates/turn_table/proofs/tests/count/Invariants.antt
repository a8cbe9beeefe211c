use Rattle.std.proofs.Common.{◌≡◌}
use Rattle.turn_table.specs.Passes.{IsPassOf, IsIdle, hart_of}
use Rattle.turn_table.proofs.tests.count.Given as goal

abbrev pub invariant-loop : goal.invariant-loop
invariant-loop g l = record {
  table : IsPassOf l.table l.pass;
  idle : IsIdle l.pass;
  hart : hart_of l.pass ≡ l.hart;
}
