use Rattle.turn_model.specs.Laws.{machine_in}
use Rattle.turn_laws.proofs.GoingOn.{recorded_one}
use Rattle.turn_laws.proofs.rounds_are_one.Goals as goal

pub returns : goal.returns
returns c terms = recorded_one (machine_in terms) terms
