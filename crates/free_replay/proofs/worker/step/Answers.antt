use Rattle.std.proofs.Common.{ap, ◌∙◌}
use Rattle.free_replay.specs.Workers.{until_told}
use Rattle.free_replay.proofs.Working.{after_turn}
use Rattle.free_replay.proofs.worker.step.Goals as goal

pub returns : goal.returns
returns g c =
    let leg = c.leg_and_turn-over in
    after_turn c.args.table.now c.args.worker.now _ c.args.worker.now.until leg.result.0.pace
    (c.until_of-worker.ensures ∙ ap (until_told leg.result.0.pace) c.count.ensures) leg.ensures.led
