use Rattle.turn_laws.proofs.ReachedBoards.{reached_is, sound_of}
use Rattle.turn_laws.proofs.Polls.{polls_begin, polls_grow, polls_stay, polls_tell, tidy_polls}
use Rattle.turn_laws.proofs.polls_grow.Goals as goal

pub returns-clause-begin : goal.returns-clause-begin
returns-clause-begin c = polls_begin

pub returns-clause-grow : goal.returns-clause-grow
returns-clause-grow c = polls_grow

pub returns-clause-stay : goal.returns-clause-stay
returns-clause-stay c = polls_stay

pub returns-clause-tell : goal.returns-clause-tell
returns-clause-tell c = polls_tell

pub returns-clause-reached : goal.returns-clause-reached
returns-clause-reached c terms image harts supply h b pages reached inside =
    tidy_polls terms.limit _ _ ((sound_of terms image harts supply pages b (reached_is terms image harts supply pages b reached)).ordered.each h inside)
