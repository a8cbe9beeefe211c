use Rattle.turn_laws.proofs.Counterparts.{clashes_are_one, holds_are_one, needs_are_one, claims_are_one}
use Rattle.turn_laws.proofs.holders_are_one.Goals as goal

pub returns-clause-clash : goal.returns-clause-clash
returns-clause-clash c = clashes_are_one

pub returns-clause-holds : goal.returns-clause-holds
returns-clause-holds c = holds_are_one

pub returns-clause-needs : goal.returns-clause-needs
returns-clause-needs c = needs_are_one

pub returns-clause-claims : goal.returns-clause-claims
returns-clause-claims c = claims_are_one
