use Rattle.turn_model.proofs.WorkedRecordings.{are_recorded}
use Rattle.turn_model.proofs.worked_recordings.Goals as goal

pub returns : goal.returns
returns c = are_recorded
