use Rattle.std.proofs.Common.{sym, subst}
use Rattle.std.specs.Prelude.{slice_set}
use Rattle.log_order.specs.Holding.{YieldsAreFew}
use Rattle.log_order.proofs.HoldsOfPage.{few_at_first}
use Rattle.log_order.proofs.holding.Holding.take_hold.Goals as goal

pub invariant_of-self : goal.invariant_of-self
invariant_of-self c =
    let holds = slice_set c.self.inside.holds.items c.args.hart c.holds_then.result in
    subst (YieldsAreFew holds) (sym c.clear.ensures.items) (few_at_first holds)
