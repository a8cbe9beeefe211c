use Rattle.round_progress.proofs.BoardLaws.{turns_are_there}
use Rattle.round_progress.proofs.turns_are_there.Goals as goal

pub returns : goal.returns
returns c = turns_are_there
