use Rattle.std.proofs.Common.{◌+◌, ◌*◌}
use Rattle.std.specs.Prelude.{vec_len}
use Rattle.free_run.proofs.workers.+running.Given as goal

abbrev pub decreases-run_list : goal.decreases-run_list
decreases-run_list g l = 3 * vec_len l.workers

abbrev pub decreases-run_here : goal.decreases-run_here
decreases-run_here g l = 3 * vec_len l.workers + 1

abbrev pub decreases-run_list-scope : goal.decreases-run_list-scope
decreases-run_list-scope g l = 3 * vec_len l.workers + 2
