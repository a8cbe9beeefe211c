-- What turns of a recorder's board come to, whatever console and clock give behind them (docs/recorder.md).
use Rattle.std.specs.Prelude.{◌≡◌, Option, Some}
use Rattle.rv_words.specs.declared.shared.Cause.{Cause}
use Rattle.rv_words.specs.declared.shared.Cause.TheVariants.{Fault}
use Rattle.flat_machine.specs.State.{FlatState}
use Rattle.turn_model.specs.Board.{Board, Supply, Terms}
use Rattle.turn_laws.specs.Supplies.{followed_by}
use Rattle.crew_parts.specs.Boards.{Plain, board_of, terms_of}
use Rattle.crew_parts.specs.Turns.{CountsFaults, Gives, GivesNoMore, IsSpent, SameTerms, SentIsTaken}

-- From one board the code came to another, and the definitions by `run` with it: with what console and clock gave in between, and
-- whatever they give later, but for a console that failed. A board that was closed stays so, and a console that failed before gave
-- nothing.
pub record Takes (terms : Terms) (run : Board FlatState → Option (Board FlatState)) (p q : Plain) : Type 0 where
  pub of_terms : terms_of p ≡ terms
  pub same : SameTerms p q
  pub given : Supply
  pub gives : Gives p.now q.now given
  pub comes : (left : Supply) → GivesNoMore q left → run (board_of p (followed_by given left)) ≡ Some (board_of q left)
  pub shut : (cause : Cause) → p.closed ≡ Some cause → q.closed ≡ Some cause
  pub silent : p.closed ≡ Some Fault → IsSpent given
  pub faults : CountsFaults p.closed q.closed p.now.console.faults q.now.console.faults
  pub sent : SentIsTaken p q
