use Rattle.crew_recording.proofs.Whole.{runs_are_orderly}
use Rattle.crew_recording.proofs.runs_are_orderly.Goals as goal

pub returns : goal.returns
returns c = runs_are_orderly
