use Rattle.log_inspect.specs.Listing.{hart_lines}
use Rattle.shared_types.proofs.Ranges.{one_line_more}
use Rattle.log_inspect.proofs.listing.put_harts.Goals as goal

pub loop-number-preserved : goal.loop-number-preserved
loop-number-preserved c =
    one_line_more (λ x. hart_lines x.0 x.1) c.args.streams.now c.loop-number.number _ _ _ _
    c.loop-number-test.true c.index-streams-number.is c.loop-number.invariant c.in_ok-put_hart.ensures
