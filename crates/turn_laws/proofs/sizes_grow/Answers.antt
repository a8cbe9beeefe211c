use Rattle.turn_model.specs.Laws.{machine_in}
use Rattle.turn_laws.proofs.Sizes.{sizes_grow, sizes_begin, sizes_stay}
use Rattle.turn_laws.proofs.sizes_grow.Goals as goal

pub returns-clause-grow : goal.returns-clause-grow
returns-clause-grow c terms = sizes_grow (machine_in terms) terms

pub returns-clause-begin : goal.returns-clause-begin
returns-clause-begin c terms = sizes_begin (machine_in terms) terms

pub returns-clause-stay : goal.returns-clause-stay
returns-clause-stay c terms = sizes_stay (machine_in terms) terms
