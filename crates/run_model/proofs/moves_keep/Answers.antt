use Rattle.run_model.proofs.Laws as law
use Rattle.run_model.proofs.moves_keep.Goals as goal

pub returns-clause-pages : goal.returns-clause-pages
returns-clause-pages c = law.keeps_on_move

pub returns-clause-one : goal.returns-clause-one
returns-clause-one c = law.stays_one

pub returns-clause-board : goal.returns-clause-board
returns-clause-board c = law.stays_on_board
