use Rattle.free_run.proofs.Right.{freely_is_by_list, freely_is_right, freely_is_not_cut}
use Rattle.free_run.proofs.laws.recordings_are_right.Goals as goal

pub returns-clause-by_list : goal.returns-clause-by_list
returns-clause-by_list c = freely_is_by_list

pub returns-clause-right : goal.returns-clause-right
returns-clause-right c = freely_is_right

pub returns-clause-not_cut : goal.returns-clause-not_cut
returns-clause-not_cut c = freely_is_not_cut
