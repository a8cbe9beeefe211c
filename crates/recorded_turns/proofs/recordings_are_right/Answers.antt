use Rattle.recorded_turns.proofs.Recordings.{lists_are_right, rounds_are_right, lists_are_cut, rounds_are_not_cut, rounds_are_one}
use Rattle.recorded_turns.proofs.recordings_are_right.Goals as goal

pub returns-clause-lists : goal.returns-clause-lists
returns-clause-lists c = lists_are_right

pub returns-clause-rounds : goal.returns-clause-rounds
returns-clause-rounds c = rounds_are_right

pub returns-clause-cut : goal.returns-clause-cut
returns-clause-cut c = lists_are_cut

pub returns-clause-not_cut : goal.returns-clause-not_cut
returns-clause-not_cut c = rounds_are_not_cut

pub returns-clause-one : goal.returns-clause-one
returns-clause-one c = rounds_are_one
