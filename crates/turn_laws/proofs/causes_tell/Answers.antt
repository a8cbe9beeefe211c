use Rattle.turn_laws.proofs.EndsKept.{open_turn, at_console, list_tells, rounds_tell}
use Rattle.turn_laws.proofs.causes_tell.Goals as goal

pub returns-clause-full : goal.returns-clause-full
returns-clause-full c terms image harts supply g n b d pages most is none shut =
    (open_turn terms image harts supply pages most g n b d is.reached is.hart is.moves is.made none).0 shut

pub returns-clause-fault : goal.returns-clause-fault
returns-clause-fault c terms image harts supply g n b d pages most is none shut =
    at_console terms image harts supply pages most g d.at is.hart
    ((open_turn terms image harts supply pages most g n b d is.reached is.hart is.moves is.made none).1 shut).0

pub returns-clause-list : goal.returns-clause-list
returns-clause-list c terms image harts supply list r whole pages most of recorded =
    list_tells terms image harts supply pages most whole list r of recorded

pub returns-clause-rounds : goal.returns-clause-rounds
returns-clause-rounds c terms image harts supply r whole pages most is = rounds_tell terms image harts supply pages most whole r is
