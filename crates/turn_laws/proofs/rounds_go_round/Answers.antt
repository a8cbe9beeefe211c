use Rattle.turn_laws.proofs.LegsAtOnce.{apart, all_come, begin_still}
use Rattle.turn_laws.proofs.rounds_go_round.Goals as goal

pub returns-clause-once : goal.returns-clause-once
returns-clause-once c = apart

pub returns-clause-all : goal.returns-clause-all
returns-clause-all c = all_come

pub returns-clause-first : goal.returns-clause-first
returns-clause-first c = begin_still
