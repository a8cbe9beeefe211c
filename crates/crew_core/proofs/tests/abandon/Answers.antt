use Rattle.crew_core.proofs.Hands.{left_handed}
use Rattle.crew_core.proofs.tests.abandon.Goals as goal

pub invariant_of-table : goal.invariant_of-table
invariant_of-table c =
    left_handed c.table.inside.board c.abandon.new.self c.table.inside.runs.items c.table.inside.untils.items _ c.abandon.ensures c.table.invariant
