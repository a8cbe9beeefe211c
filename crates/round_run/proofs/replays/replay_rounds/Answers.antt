use Rattle.std.proofs.Common.{refl, rules}
use Rattle.round_run.proofs.Settling.{comes_to, parts_begin, parts_end}
use Rattle.round_run.proofs.replays.replay_rounds.Goals as goal

pub beside-made-requires-after_bounds : goal.beside-made-requires-after_bounds
beside-made-requires-after_bounds g c κs within =
    let reached = c.harts.ensures.reached in (
      record {
        led = parts_begin c.in_ok-board.board reached.0 c.in_ok-board.runs.items reached.1 c.in_ok-board.ensures.runs;
        places = refl;
      },
      search rules,
    )

pub stage-requires : goal.stage-requires
stage-requires g c = parts_end c.in_ok-ended.ended.board c.in_ok-ended.ended.runs.items c.in_ok-ended.ensures.parts

pub returns : goal.returns
returns g c =
    comes_to c.args.orderly c.args.image.now c.in_ok-board.board c.in_ok-ended.ended.board c.stage.result c.finish.result c.in_ok-board.ensures.board
    c.in_ok-ended.ensures.same c.stage.ensures.at c.stage.ensures.log c.finish.ensures
