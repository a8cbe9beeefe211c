use Rattle.free_run.proofs.pairs.+unpair.Given as goal

abbrev pub decreases-unpair : goal.decreases-unpair
decreases-unpair g l = l.workers.len
