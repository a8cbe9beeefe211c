use Rattle.turn_model.specs.Laws.{machine_in}
use Rattle.turn_laws.proofs.MoreAnswers.{turn_carried, listed_carried, closed_carried, sweep_carried, round_carried, rounds_carried, last_carried}
use Rattle.turn_laws.proofs.MoreAnswers.{list_recorded}
use Rattle.turn_laws.proofs.MoreAnswers.{rounds_recorded, steps_extend, steps_go_on}
use Rattle.turn_laws.proofs.GoingOn.{joined, listed_behind, sweep_behind, last_behind}
use Rattle.turn_laws.proofs.turns_extend.Goals as goal

pub returns-clause-turn : goal.returns-clause-turn
returns-clause-turn c terms = turn_carried (machine_in terms) terms

pub returns-clause-list : goal.returns-clause-list
returns-clause-list c terms = listed_carried (machine_in terms) terms

pub returns-clause-close : goal.returns-clause-close
returns-clause-close c terms = closed_carried (machine_in terms) terms

pub returns-clause-sweep : goal.returns-clause-sweep
returns-clause-sweep c terms = sweep_carried (machine_in terms) terms

pub returns-clause-round : goal.returns-clause-round
returns-clause-round c terms = round_carried (machine_in terms) terms

pub returns-clause-rounds : goal.returns-clause-rounds
returns-clause-rounds c terms = rounds_carried (machine_in terms) terms

pub returns-clause-last : goal.returns-clause-last
returns-clause-last c terms = last_carried (machine_in terms) terms

pub returns-clause-recorded : goal.returns-clause-recorded
returns-clause-recorded c terms = list_recorded (machine_in terms) terms

pub returns-clause-recorded_in_rounds : goal.returns-clause-recorded_in_rounds
returns-clause-recorded_in_rounds c terms = rounds_recorded (machine_in terms) terms

pub returns-clause-go_on : goal.returns-clause-go_on
returns-clause-go_on c terms = listed_behind (machine_in terms) terms

pub returns-clause-sweeps_go_on : goal.returns-clause-sweeps_go_on
returns-clause-sweeps_go_on c terms = sweep_behind (machine_in terms) terms

pub returns-clause-last_go_on : goal.returns-clause-last_go_on
returns-clause-last_go_on c terms = last_behind (machine_in terms) terms

pub returns-clause-joined : goal.returns-clause-joined
returns-clause-joined c = joined

pub returns-clause-steps : goal.returns-clause-steps
returns-clause-steps c terms = steps_extend (machine_in terms) terms

pub returns-clause-steps_go_on : goal.returns-clause-steps_go_on
returns-clause-steps_go_on c = steps_go_on
