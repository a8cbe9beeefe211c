use Rattle.round_progress.proofs.BoardLaws.{rounds_are_recorded}
use Rattle.round_progress.proofs.rounds_are_recorded.Goals as goal

pub returns : goal.returns
returns c = rounds_are_recorded
