use Rattle.turn_laws.proofs.EndsKept.{board_in_range, list_in_range, rounds_in_range}
use Rattle.turn_laws.proofs.logs_are_in_range.Goals as goal

pub returns-clause-board : goal.returns-clause-board
returns-clause-board c terms image harts supply b limits from = board_in_range terms image harts supply limits.pages limits.most_harts limits b from

pub returns-clause-list : goal.returns-clause-list
returns-clause-list c terms image harts supply list r limits of recorded =
    list_in_range terms image harts supply limits.pages limits.most_harts limits.whole limits list r of recorded

pub returns-clause-rounds : goal.returns-clause-rounds
returns-clause-rounds c terms image harts supply r limits is =
    rounds_in_range terms image harts supply limits.pages limits.most_harts limits.whole limits r is
