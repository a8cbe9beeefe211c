use Rattle.crew_parts.proofs.Laws as laws
use Rattle.crew_parts.proofs.boards_are_sound.Goals as goal

pub returns-clause-sound : goal.returns-clause-sound
returns-clause-sound c = laws.boards_are_sound

pub returns-clause-set : goal.returns-clause-set
returns-clause-set c = laws.boards_set
