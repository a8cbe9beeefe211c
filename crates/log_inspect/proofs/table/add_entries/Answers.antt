use Rattle.log_inspect.specs.Table.{hand_over}
use Rattle.log_inspect.proofs.Numbered.{one_made_more}
use Rattle.log_inspect.proofs.table.add_entries.Goals as goal

pub loop-place-preserved : goal.loop-place-preserved
loop-place-preserved c =
    one_made_more (λ x. hand_over c.args.hart x.0 x.1) c.args.s.now c.loop-place.place _ _ _ _
    c.loop-place-test.true c.index-s-place.is c.loop-place.invariant c.in_ok-add_entry.ensures
