use Rattle.recorded_turns.proofs.Loops.{rows_are_taken, lists_are_taken}
use Rattle.recorded_turns.proofs.Over.{over_is_over, cut_is_taken, closes_are_taken}
use Rattle.recorded_turns.proofs.lists_are_taken.Goals as goal

pub returns-clause-rows : goal.returns-clause-rows
returns-clause-rows c = rows_are_taken

pub returns-clause-over : goal.returns-clause-over
returns-clause-over c = over_is_over

pub returns-clause-cut : goal.returns-clause-cut
returns-clause-cut c = cut_is_taken

pub returns-clause-closes : goal.returns-clause-closes
returns-clause-closes c = closes_are_taken

pub returns-clause-lists : goal.returns-clause-lists
returns-clause-lists c = lists_are_taken
