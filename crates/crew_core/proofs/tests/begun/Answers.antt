use Rattle.crew_core.proofs.Hands.{first_handed}
use Rattle.crew_core.proofs.tests.begun.Goals as goal

pub invariant_of-result : goal.invariant_of-result
invariant_of-result c =
    first_handed _ _ _ _ _ _ _ _ _ c.in-Ok.ensures.board c.in-Ok.ensures.parts (c.in_ok-untils-in-Ok.ensures.items_if_clones_equal (λ y e. e))
    c.from-in-Ok.ensures
