use Rattle.crew_core.proofs.Hands.{cut_handed}
use Rattle.crew_core.proofs.tests.cut.Goals as goal

pub invariant_of-table : goal.invariant_of-table
invariant_of-table c =
    cut_handed c.table.inside.board c.cut.new.self c.table.inside.runs.items c.table.inside.untils.items c.cut.ensures c.table.invariant
