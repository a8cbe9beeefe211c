use Rattle.std.proofs.Common.{◌+◌}
use Rattle.report_view.specs.Trace.{step_line}
use Rattle.shared_types.proofs.Ranges.{one_line_more}
use Rattle.report_view.proofs.trace.put_steps.Goals as goal

pub loop-number-preserved : goal.loop-number-preserved
loop-number-preserved c =
    one_line_more (λ x. step_line (c.args.from + x.0) x.1) c.args.steps.now c.loop-number.number _ _ _ _
    c.loop-number-test.true c.index-steps-number.is c.loop-number.invariant c.in_ok-put_step.ensures
