use Rattle.std.proofs.Common.{◌≡◌, replicate, None}
use Rattle.privilege_directory.proofs.directory.rows.Given as goal

abbrev pub invariant-loop : goal.invariant-loop
invariant-loop l = l.rows.items ≡ replicate l.counter (replicate l.harts None)
