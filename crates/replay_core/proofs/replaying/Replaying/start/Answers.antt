use Rattle.std.proofs.Common.{◌≡◌, ◌∙◌, length, ap}
use Rattle.log_entry.specs.declared.log.Log.{Log}
use Rattle.replay_core.proofs.FirstStage.{agree_first, first_at}
use Rattle.replay_core.proofs.replaying.Replaying.start.Goals as goal

pub returns : goal.returns
returns c =
    let number : c.harts_of-harts.result ≡ length c.in_ok-board.board.log.streams =
    c.harts_of-harts.ensures.number ∙ ap (λ (l : Log). length l.streams) c.log.ensures.same in
    let stands = c.in_ok-board.ensures.1 in
    let runs = agree_first c.args.image.now c.harts_of-harts.result c.in_ok-runs.runs.items stands.replayable.whole c.in_ok-runs.ensures in (
      c.in_ok-board.ensures.0,
      first_at c.args.image.now c.args.orderly _ c.harts_of-harts.result c.in_ok-board.ensures.0 c.in_ok-board.ensures.1 number runs.0 runs.1
          c.in_ok-ends.ensures,
    )
