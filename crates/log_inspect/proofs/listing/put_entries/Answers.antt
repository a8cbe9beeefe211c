use Rattle.log_inspect.specs.Listing.{entry_line}
use Rattle.shared_types.proofs.Ranges.{one_line_more}
use Rattle.log_inspect.proofs.listing.put_entries.Goals as goal

pub loop-number-preserved : goal.loop-number-preserved
loop-number-preserved c =
    one_line_more (λ x. entry_line x.0 x.1) c.args.entries.now c.loop-number.number _ _ _ _
    c.loop-number-test.true c.index-entries-number.is c.loop-number.invariant c.in_ok-put_entry_line.ensures
