use Rattle.std.proofs.Common.{arith}
use Rattle.recorded_turns.proofs.Taking.{same_then}
use Rattle.free_run.proofs.Turning.{its_part, parts_then}
use Rattle.free_run.proofs.rest.turns_of_all.Goals as goal

pub turns-requires-after_bounds : goal.turns-requires-after_bounds
turns-requires-after_bounds g c κs within =
    (its_part c.loop-i.board c.loop-i.runs c.loop-i.i c.index-runs-i.result c.over.ensures.holds c.loop-i.invariant.1
    (omega (arith, c.loop-i-test.true, c.loop-i.auto.runs))).1

pub loop-i-preserved : goal.loop-i-preserved
loop-i-preserved g c = (
  same_then c.args.board.now c.loop-i.board c.turns.new.board c.loop-i.invariant.0 c.turns.ensures.terms,
  parts_then c.loop-i.board c.turns.new.board c.loop-i.runs c.loop-i.i c.index-runs-i.result c.turns.new.run c.over.ensures.holds c.loop-i.invariant.1
      (omega (arith, c.loop-i-test.true, c.loop-i.auto.runs)) c.in_ok-turns.ensures.goes,
)
