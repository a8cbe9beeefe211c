use Rattle.std.proofs.Common.{◌∙◌, sym, true, false}
use Rattle.crew_core.proofs.Resting.{rests, open_by}
use Rattle.crew_core.proofs.crew.Crew.rests_where_closed.Goals as goal

pub returns-then-is_shut-clause-does : goal.returns-then-is_shut-clause-does
returns-then-is_shut-clause-does c = λ h r b st a. rests c.args.self.now r h b true (sym c.is_shut.ensures ∙ c.if-is_shut.true) st a

pub returns-clause-does : goal.returns-clause-does
returns-clause-does c = λ h r b st a. rests c.args.self.now r h b false (sym c.is_shut.ensures ∙ c.if-is_shut.false) st a

pub returns-clause-open : goal.returns-clause-open
returns-clause-open c = λ none. open_by c.args.self.now.closed c.args.self.now.backing.devices.devices.stop (sym c.is_shut.ensures ∙ c.if-is_shut.false)
