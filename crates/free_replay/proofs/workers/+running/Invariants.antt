use Rattle.std.proofs.Common.{◌+◌, ◌*◌}
use Rattle.std.specs.Prelude.{vec_len}
use Rattle.free_replay.proofs.workers.+running.Given as goal

abbrev pub decreases-run_list : goal.decreases-run_list
decreases-run_list g l = 4 * vec_len l.passes

abbrev pub decreases-run_here : goal.decreases-run_here
decreases-run_here g l = 4 * vec_len l.passes + 1

abbrev pub decreases-run_last-scope : goal.decreases-run_last-scope
decreases-run_last-scope g l = 4 * vec_len l.passes + 2

abbrev pub decreases-run_last : goal.decreases-run_last
decreases-run_last g l = 4 * vec_len l.passes + 3
