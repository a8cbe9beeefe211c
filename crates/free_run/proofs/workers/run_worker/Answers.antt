use Rattle.free_run.proofs.Working.{not_yet}
use Rattle.free_run.proofs.workers.run_worker.Goals as goal

pub returns-then-no_thread-clause-worked : goal.returns-then-no_thread-clause-worked
returns-then-no_thread-clause-worked g c = not_yet c.args.table.now c.args.worker.0 c.args.worker.1 c.requires
