use Rattle.recorded_turns.proofs.Loops.{sweeps_are_taken, round_is_taken, rounds_are_taken, last_turns_are_taken, last_turns_leave, recordings_are_taken}
use Rattle.recorded_turns.proofs.Over.{first_round_is_taken, less_is_left, little_is_left}
use Rattle.recorded_turns.proofs.rounds_are_taken.Goals as goal

pub returns-clause-sweeps : goal.returns-clause-sweeps
returns-clause-sweeps c = sweeps_are_taken

pub returns-clause-round : goal.returns-clause-round
returns-clause-round c = round_is_taken

pub returns-clause-rounds : goal.returns-clause-rounds
returns-clause-rounds c = rounds_are_taken

pub returns-clause-last : goal.returns-clause-last
returns-clause-last c = last_turns_are_taken

pub returns-clause-left : goal.returns-clause-left
returns-clause-left c = last_turns_leave

pub returns-clause-recorded : goal.returns-clause-recorded
returns-clause-recorded c = recordings_are_taken

pub returns-clause-less : goal.returns-clause-less
returns-clause-less c = less_is_left

pub returns-clause-little : goal.returns-clause-little
returns-clause-little c = little_is_left

pub returns-clause-first : goal.returns-clause-first
returns-clause-first c = first_round_is_taken
