use Rattle.recorded_turns.proofs.Advanced.{legs_advance, rows_advance, parts_are_advanced, turns_leave_parts, others_stay_advanced, others_stay_told}
use Rattle.recorded_turns.proofs.Advanced.{favoured_stay_advanced}
use Rattle.recorded_turns.proofs.legs_stay_made.Goals as goal

pub returns-clause-legs : goal.returns-clause-legs
returns-clause-legs c = legs_advance

pub returns-clause-rows : goal.returns-clause-rows
returns-clause-rows c = rows_advance

pub returns-clause-parts : goal.returns-clause-parts
returns-clause-parts c = parts_are_advanced

pub returns-clause-others : goal.returns-clause-others
returns-clause-others c = others_stay_advanced

pub returns-clause-told : goal.returns-clause-told
returns-clause-told c = others_stay_told

pub returns-clause-favoured : goal.returns-clause-favoured
returns-clause-favoured c = favoured_stay_advanced

pub returns-clause-turns : goal.returns-clause-turns
returns-clause-turns c = turns_leave_parts
