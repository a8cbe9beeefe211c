use Rattle.log_inspect.specs.Table.{hand_overs_of}
use Rattle.shared_types.proofs.Ranges.{one_line_more}
use Rattle.log_inspect.proofs.table.add_streams.Goals as goal

pub loop-hart-preserved : goal.loop-hart-preserved
loop-hart-preserved c =
    one_line_more (λ x. hand_overs_of x.0 x.1) c.args.streams.now c.loop-hart.hart _ _ _ _
    c.loop-hart-test.true c.index-streams-hart.is c.loop-hart.invariant c.in_ok-add_stream.ensures
