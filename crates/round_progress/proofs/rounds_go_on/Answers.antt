use Rattle.round_progress.proofs.FurtherRounds.{rounds_follow}
use Rattle.turn_model.specs.Laws.{machine_in}
use Rattle.round_progress.proofs.RoundEnds.{rounds_bound}
use Rattle.round_progress.proofs.BoardLaws.{rounds_go_on, rounds_fall}
use Rattle.round_progress.proofs.rounds_go_on.Goals as goal

pub returns-clause-go_on : goal.returns-clause-go_on
returns-clause-go_on c = rounds_go_on

pub returns-clause-fall : goal.returns-clause-fall
returns-clause-fall c = rounds_fall

pub returns-clause-few : goal.returns-clause-few
returns-clause-few c terms = rounds_bound (machine_in terms) terms

pub returns-clause-follow : goal.returns-clause-follow
returns-clause-follow c = rounds_follow
