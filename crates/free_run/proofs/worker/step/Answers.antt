use Rattle.std.proofs.Common.{Some, refl, ap, ◌∙◌}
use Rattle.crew_core.specs.Orders.{told}
use Rattle.crew_parts.specs.Parts.{until_by}
use Rattle.free_run.specs.declared.worker.Job.{Job}
use Rattle.free_run.proofs.Working.{after_turn}
use Rattle.free_run.proofs.worker.step.Goals as goal

pub returns-after-changed : goal.returns-after-changed
returns-after-changed g c =
    let led = c.in-Ok.field-0-0 in
    let job : Job =
    record { run = c.leg_and_turn.new.run; until = c.until_of-job.result; legs = c.saturating_add-job.result; refused = c.args.job.now.refused } in
    after_turn c.args.table.now c.args.pass.now c.leg_and_turn.new.pass c.args.job.now job c.args.job.now.until led c.if-refused.false refl
    (c.until_of-job.ensures ∙ ap (λ n. until_by n (Some (told led.order))) c.count.ensures) c.in-Ok.ensures.led
