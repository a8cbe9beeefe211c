use Rattle.command_words.proofs.places_are_first.Goals as goal
use Rattle.command_words.proofs.FirstBad as proof

pub returns : goal.returns
returns c = proof.places_are_first
