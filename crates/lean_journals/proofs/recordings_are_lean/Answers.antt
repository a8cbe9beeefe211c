use Rattle.lean_journals.proofs.LeanRecordings.{recordings_are_lean, rounds_are_lean}
use Rattle.lean_journals.proofs.recordings_are_lean.Goals as goal

pub returns-clause-list : goal.returns-clause-list
returns-clause-list c = recordings_are_lean

pub returns-clause-rounds : goal.returns-clause-rounds
returns-clause-rounds c = rounds_are_lean
