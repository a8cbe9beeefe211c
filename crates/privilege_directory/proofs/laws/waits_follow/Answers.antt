use Rattle.privilege_directory.proofs.Follow.{along_orders, gives_entries, allows_entries}
use Rattle.privilege_directory.proofs.laws.waits_follow.Goals as goal

pub returns-clause-along : goal.returns-clause-along
returns-clause-along c = along_orders

pub returns-clause-given : goal.returns-clause-given
returns-clause-given c = gives_entries

pub returns-clause-allowed : goal.returns-clause-allowed
returns-clause-allowed c = allows_entries
