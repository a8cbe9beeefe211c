use Rattle.replay_law.proofs.WorkedAtomics.{are_atomic}
use Rattle.replay_law.proofs.worked_atomics.Goals as goal

pub returns : goal.returns
returns c = are_atomic
