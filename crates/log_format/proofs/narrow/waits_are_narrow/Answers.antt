use Rattle.std.proofs.lemmas.List.Elements.{All-more}
use Rattle.log_format.specs.Writing.{IsNarrowWait}
use Rattle.log_format.proofs.narrow.waits_are_narrow.Goals as goal

pub loop-wait-preserved : goal.loop-wait-preserved
loop-wait-preserved c =
    All-more IsNarrowWait c.args.waits.now c.loop-wait.wait-index _ c.loop-wait-test.true c.loop-wait.invariant c.wait_is_narrow.ensures
