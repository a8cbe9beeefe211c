use Rattle.std.proofs.Common.{◌≡◌, replicate, []}
use Rattle.privilege_directory.proofs.directory.no_yields.Given as goal

abbrev pub invariant-loop : goal.invariant-loop
invariant-loop l = l.yields.items ≡ replicate l.counter []
