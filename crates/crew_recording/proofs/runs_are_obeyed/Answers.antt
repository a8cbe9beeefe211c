use Rattle.crew_recording.proofs.Steady.{runs_are_obeyed}
use Rattle.crew_recording.proofs.runs_are_obeyed.Goals as goal

pub returns : goal.returns
returns c = runs_are_obeyed
