use Rattle.std.proofs.Common.{◌+◌, ◌*◌}
use Rattle.side_work.proofs.worker.+beside+fn-beside-join+arg3.Given as goal

abbrev pub decreases-beside : goal.decreases-beside
decreases-beside g l = 2 * l.workers.len + 1

abbrev pub decreases-join+arg3 : goal.decreases-join+arg3
decreases-join+arg3 g l = 2 * l.workers.len + 2
