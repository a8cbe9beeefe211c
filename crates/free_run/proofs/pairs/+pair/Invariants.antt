use Rattle.free_run.proofs.pairs.+pair.Given as goal

abbrev pub decreases-pair : goal.decreases-pair
decreases-pair g l = l.passes.now.len
