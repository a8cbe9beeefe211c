use Rattle.round_progress.proofs.BoardLaws.{lists_are_recorded}
use Rattle.round_progress.proofs.lists_are_recorded.Goals as goal

pub returns : goal.returns
returns c = lists_are_recorded
