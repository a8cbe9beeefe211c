use Rattle.turn_model.specs.Laws.{machine_in}
use Rattle.turn_laws.proofs.Waits.{waits_begin, waits_follow, waits_stay, waits_tell, moves_keep}
use Rattle.turn_laws.proofs.waits_follow.Goals as goal

pub returns-clause-begin : goal.returns-clause-begin
returns-clause-begin c terms = waits_begin (machine_in terms) terms

pub returns-clause-follow : goal.returns-clause-follow
returns-clause-follow c terms = waits_follow (machine_in terms) terms

pub returns-clause-stay : goal.returns-clause-stay
returns-clause-stay c terms = waits_stay (machine_in terms) terms

pub returns-clause-tell : goal.returns-clause-tell
returns-clause-tell c terms = waits_tell (machine_in terms) terms

pub returns-clause-moves : goal.returns-clause-moves
returns-clause-moves c terms = moves_keep (machine_in terms) terms
