use Rattle.turn_model.proofs.RightRecordings.{recordings_are_right, rounds_are_right}
use Rattle.turn_model.proofs.recordings_are_right.Goals as goal

pub returns-clause-list : goal.returns-clause-list
returns-clause-list c = recordings_are_right

pub returns-clause-rounds : goal.returns-clause-rounds
returns-clause-rounds c = rounds_are_right
