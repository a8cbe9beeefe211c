use Rattle.turn_laws.proofs.Causes.{turn_closes, lists_cut, rounds_not_cut}
use Rattle.turn_laws.proofs.causes_are_exact.Goals as goal

pub returns-clause-turn : goal.returns-clause-turn
returns-clause-turn c terms image harts supply g n b d pages is none =
    turn_closes terms image harts supply pages g n b d is.reached is.hart is.moves is.made none

pub returns-clause-list : goal.returns-clause-list
returns-clause-list c terms image harts supply list b r pages of is recorded = lists_cut terms image harts supply pages list b r of is recorded

pub returns-clause-rounds : goal.returns-clause-rounds
returns-clause-rounds c terms image harts supply r pages is = rounds_not_cut terms image harts supply pages r is
